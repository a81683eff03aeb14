-- Numbers at a place of a row of bytes: what reading answers, and what putting leaves.
use Rattle.std.specs.Prelude.{ℕ, ◌+◌, ◌-◌, cond, List, ◌++◌, length, take, drop, Some, None, Option, nat_le}
use Rattle.codec.specs.Numbers.{Read, number, refused, read}
use Rattle.codec.specs.declared.Number.{Number}

-- a number and the place after it, in `whole` bytes
abbrev pub placed : ℕ → Read → Option Number
placed whole refused = None
placed whole (number n rest) = Some (record { value = n; end = whole - length rest })

-- the number at a place
abbrev pub number_at : List ℕ → ℕ → Option Number
number_at bytes at = placed (length bytes) (read (drop at bytes))

-- bytes put at a place, if they fit: the place after them, and all the bytes then
abbrev pub end_after : List ℕ → ℕ → List ℕ → Option ℕ
end_after bytes at form = cond (nat_le (at + length form) (length bytes)) (Some (at + length form)) None

abbrev pub with_bytes : List ℕ → ℕ → List ℕ → List ℕ
with_bytes bytes at form =
    cond (nat_le (at + length form) (length bytes)) (take at bytes ++ (form ++ drop (at + length form) bytes)) bytes
