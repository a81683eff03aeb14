use Rattle.std.proofs.Common.{rules}
use Rattle.codec.proofs.Putting.{begun, byte_more, last_byte}
use Rattle.codec.proofs.form.Goals as goal

pub loop-left-init : goal.loop-left-init
loop-left-init c = rw c.new-form.ensures (begun c.args.n (search rules))

pub loop-left-preserved : goal.loop-left-preserved
loop-left-preserved c = search (rules, byte_more _ _ _ c.loop-left.invariant c.loop-left-test.true)

pub returns : goal.returns
returns c = search (rules, last_byte _ _ _ c.loop-left.invariant c.loop-left-test.false)
