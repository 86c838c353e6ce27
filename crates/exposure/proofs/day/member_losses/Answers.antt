-- `member_losses` meets its contract: the pass of `LossPass`, member by member. The losses are the part that is filled, and zeros.
use mathlib.Core.Path.{◌≡◌, refl}
use Prim.Native.Nat.{ℕ, ◌≤◌}
use native.Mathlib.Omega.{arith}
use lib.ListN.{replicate}
use mir.Syntax.{w64}
use Rattle.std.proofs.Common.{length, take, length-take-le}
use Rattle.std.proofs.lemmas.List.{set-append_left, take-append-drop}
use Rattle.numbers.proofs.Signed.{back_ok}
use Rattle.exposure.specs.AccountsIn.{slices_in}
use Rattle.exposure.proofs.Left.{from_first, left_first, left_own, left_next}
use Rattle.exposure.proofs.LossPass.{loss_none, loss_more}
use Rattle.exposure.proofs.day.member_losses.Goals as goal

part_long : (n : ℕ) → n ≤ 32 → length {A = ℕ} (take n (replicate 32 0)) ≡ n
part_long n few = length-take-le n (replicate 32 0) few

pub loop-i-init : goal.loop-i-init
loop-i-init c =
    let a = c.args.all in
    rw take-append-drop (loss_none (record { same = refl; left = from_first a.k (slices_in a) c.requires.rising; rising = c.requires.rising }))

pub split-requires : goal.split-requires
split-requires c = let p = c.loop-i.invariant.place in record { rising = p.rising; from = left_first p }

pub loop-i-preserved : goal.loop-i-preserved
loop-i-preserved c =
    let s = c.split in
    let p = c.loop-i.invariant in
    let e = c.eul in
    let loss = rw (back_ok w64 e.result e.type_inv) at c.gain.ensures in
    let own = left_own p.place s.result.0 s.ensures.own in
    rw (← set-append_left c.loop-i.loss-items _ c.loop-i.i _ (omega (arith, c.loop-i-test.true)))
    (loss_more p s.result.0 s.result.1 own e.result _ e.ensures.is e.ensures.bound loss (omega (arith, part_long c.args.n c.requires.members_few, c.loop-i-test.true, c.requires.members_few))
    (left_next p.place s.result.1 s.ensures.others s.ensures.others_rising))
