-- `row` meets its contract. The invariant: what all the fields hold is what stands in the row before j, and then what is left.
use Rattle.fields.proofs.RowRead.{RowSoFar}
use Rattle.fields.proofs.row.Given as goal

abbrev pub invariant-loop-j : goal.invariant-loop-j
invariant-loop-j l = RowSoFar l.text l.fn.kind_place l.count l.row l.rest l.j
