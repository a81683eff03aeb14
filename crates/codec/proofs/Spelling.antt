-- Reading a number, byte by byte and at a place.
use Rattle.std.proofs.Common.{◌≡◌, ℕ, zero, suc, ◌-◌, ◌<◌, ◌≤◌, List, [], ◌∷◌, length, drop, Some, None, refl, ap, ◌∙◌, arith, length-drop, drop-drop}
use Rattle.std.proofs.lemmas.Bool.Decides.{nat_tests}
use Rattle.codec.specs.Numbers.{Read, number, refused, below, digits, in_32_bits, read_in, read}
use Rattle.codec.specs.Files.{placed}
use Rattle.codec.specs.declared.Number.{Number}

pub no_bytes : (f : ℕ) (bytes : List ℕ) → f ≡ 0 → read_in f bytes ≡ refused
unfolding digits
no_bytes zero bytes e = refl
no_bytes (suc f) bytes e = absurd (omega arith)

pub at_end : (f : ℕ) (bytes : List ℕ) → length bytes ≡ 0 → read_in f bytes ≡ refused
unfolding digits
at_end zero bytes e = refl
at_end (suc f) [] e = refl
at_end (suc f) (b ∷ bytes) e = absurd (omega arith)

pub past_end : (f at : ℕ) (bytes : List ℕ) → length bytes ≤ at → read_in f (drop at bytes) ≡ refused
past_end f at bytes h = at_end f (drop at bytes) (omega (arith, length-drop at bytes))

pub last_byte : (f b : ℕ) (bytes : List ℕ) → 0 < f → b < 128 → read_in f (b ∷ bytes) ≡ number b bytes
unfolding digits
last_byte zero b bytes some h = absurd (omega arith)
last_byte (suc f) b bytes some h = grind (arith, nat_tests)

-- a byte that others follow: what they spell is past 32 bits with it if it is without it
pub byte_more : (f b : ℕ) (bytes : List ℕ) → 0 < f → 128 ≤ b → read_in f (b ∷ bytes) ≡ in_32_bits (below b (read_in (f - 1) bytes))
unfolding digits
byte_more zero b bytes some h = absurd (omega arith)
byte_more (suc f) b bytes some h = let one : suc f - 1 ≡ f = omega arith in rw one (by (digits f bytes) refl)
  where
    by : (x : Read) → digits f bytes ≡ x → read_in (suc f) (b ∷ bytes) ≡ in_32_bits (below b (in_32_bits (digits f bytes)))
    by refused d = grind (arith, nat_tests)
    by (number k r) d = grind (arith, nat_tests)

pub ruleset reading = (no_bytes, at_end, past_end, last_byte, byte_more, nat_tests)

-- what is left after a number is the end of the bytes
digits_suffix : (f : ℕ) (bytes : List ℕ) (n : ℕ) (rest : List ℕ) → digits f bytes ≡ number n rest →
    (length rest < length bytes) × (drop (length bytes - length rest) bytes ≡ rest)
unfolding digits
digits_suffix zero bytes n rest e = grind arith
digits_suffix (suc f) [] n rest e = grind arith
digits_suffix (suc f) (b ∷ bytes) n rest e = by (digits f bytes) refl (digits_suffix f bytes)
  where
    -- one byte on
    here : drop (length (b ∷ bytes) - length bytes) (b ∷ bytes) ≡ bytes
    here = let one : length (b ∷ bytes) - length bytes ≡ 1 = omega arith in ap (λ (i : ℕ). drop i (b ∷ bytes)) one

    by : (x : Read) → digits f bytes ≡ x → ((k : ℕ) (r : List ℕ) → digits f bytes ≡ number k r → (length r < length bytes) × (drop (length bytes - length r) bytes ≡ r)) →
        (length rest < length (b ∷ bytes)) × (drop (length (b ∷ bytes) - length rest) (b ∷ bytes) ≡ rest)
    by refused d above = grind (arith, nat_tests, here)
    by (number k r) d above =
        let is : (length r < length bytes) × (drop (length bytes - length r) bytes ≡ r) = above k r d in
        let step : length (b ∷ bytes) - length r ≡ suc (length bytes - length r) = omega (arith, is.0) in
        let onward : drop (length (b ∷ bytes) - length r) (b ∷ bytes) ≡ r = ap (λ (i : ℕ). drop i (b ∷ bytes)) step ∙ is.1 in
        grind (arith, nat_tests, here, onward)

-- reading at a place and going on at the end
pub placed_rest : (bytes : List ℕ) (at : ℕ) → at ≤ length bytes → (n : ℕ) (rest : List ℕ) → read (drop at bytes) ≡ number n rest →
    drop (length bytes - length rest) bytes ≡ rest
placed_rest bytes at h n rest e = by (digits 5 (drop at bytes)) refl
  where
    by : (x : Read) → digits 5 (drop at bytes) ≡ x → drop (length bytes - length rest) bytes ≡ rest
    by refused d = grind arith
    by (number k r) d =
        let is : (length r < length (drop at bytes)) × (drop (length (drop at bytes) - length r) (drop at bytes) ≡ r) = digits_suffix 5 (drop at bytes) k r d in
        grind (arith, nat_tests, drop-drop (length (drop at bytes) - length r) at bytes, length-drop at bytes)

-- what read_number's answer tells of the definition
pub none_read : (bytes : List ℕ) (at : ℕ) → None ≡ placed (length bytes) (read (drop at bytes)) → read (drop at bytes) ≡ refused
none_read bytes at e = by (read (drop at bytes)) refl
  where
    by : (x : Read) → read (drop at bytes) ≡ x → read (drop at bytes) ≡ refused
    by refused d = d
    by (number n rest) d = grind arith

pub some_read : (bytes : List ℕ) (at : ℕ) → at ≤ length bytes → (x : Number) → Some x ≡ placed (length bytes) (read (drop at bytes)) →
    (read (drop at bytes) ≡ number x.value (drop x.end bytes)) × (x.end ≤ length bytes)
some_read bytes at h x e = by (read (drop at bytes)) refl
  where
    by : (o : Read) → read (drop at bytes) ≡ o → (read (drop at bytes) ≡ number x.value (drop x.end bytes)) × (x.end ≤ length bytes)
    by refused d = grind arith
    by (number n rest) d = grind (arith, placed_rest bytes at h n rest d)
