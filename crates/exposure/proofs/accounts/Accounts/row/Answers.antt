-- `Accounts::row` meets its contract: the pass of `RowPass`, scenario by scenario. The row is the part that is filled, and zeros.
use Prim.Native.Nat.{ℕ, ◌≤◌}
use native.Mathlib.Omega.{arith}
use lib.IntN.{pos}
use lib.ListN.{replicate}
use mathlib.Core.Path.{◌≡◌}
use Rattle.std.proofs.Common.{length, take, length-take-le}
use Rattle.std.proofs.lemmas.List.{set-append_left, take-append-drop}
use Rattle.exposure.proofs.RowPass.{row_none, row_more, row_all}
use Rattle.exposure.proofs.accounts.Accounts.row.Goals as goal

part_long : (k : ℕ) → k ≤ 16 → length (take k (replicate 16 (pos 0))) ≡ k
part_long k few = length-take-le k (replicate 16 (pos 0)) few

pub loop-j-init : goal.loop-j-init
loop-j-init c = rw take-append-drop (row_none _)

pub loop-j-preserved : goal.loop-j-preserved
loop-j-preserved c =
    let e = c.eul in
    let long = part_long c.args.self.now.k c.args.self.now.few in
    rw (← set-append_left c.loop-j.place-items _ c.loop-j.j _ (omega (arith, c.loop-j-test.true)))
    (row_more _ e.result (omega (arith, long, c.loop-j-test.true, c.args.self.now.few)) e.type_inv e.ensures.is e.ensures.bound c.loop-j.invariant)

pub returns : goal.returns
returns c =
    let long = part_long c.args.self.now.k c.args.self.now.few in
    row_all _ c.args.self.now.k (omega (arith, long)) (omega (arith, long, c.loop-j-test.false)) c.loop-j.invariant
