-- `digits` meets its contract. The invariant: the field's number is that of what is left at index k, behind the k digits before it.
use Rattle.fields.specs.Fields.{Run}
use Rattle.fields.proofs.digits.Given as goal

abbrev pub invariant-loop-k : goal.invariant-loop-k
invariant-loop-k l = Run l.text l.k l.value
