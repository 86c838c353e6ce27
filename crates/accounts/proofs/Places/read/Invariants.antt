-- `read` meets its contract. The invariant: what is due of all lines is what is due of those that are left (`ReadSoFar`).
use Rattle.accounts.proofs.AcctLoop.{ReadSoFar}
use Rattle.accounts.proofs.Places.read.Given as goal

abbrev pub invariant-loop-j : goal.invariant-loop-j
invariant-loop-j l = ReadSoFar l.text l.count l.k l.j l.rest l.self
