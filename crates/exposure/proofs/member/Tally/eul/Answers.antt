-- `Tally::eul` meets its contract: the law of `Tallies` for no account left.
use mathlib.Core.Path.{◌≡◌}
use Prim.Native.Nat.{◌+◌, ◌-◌, ◌<◌, ◌^◌, max}
use native.Mathlib.Omega.{arith}
use lib.IntN.{pos, ◌+ℤ◌}
use mir.Syntax.{w64}
use mir.Val.{SFits}
use mir.ValLaws.{to_z_pos}
use Rattle.std.specs.Int.{div_ceil}
use Rattle.numbers.proofs.Signed.{back}
use Rattle.exposure.proofs.Tallies.{house_fits, total_fits, ended}
use Rattle.exposure.proofs.member.Tally.eul.Goals as goal

pub returns : goal.returns
returns c =
    let t = c.args.self in
    let part_b : c.max-part_b.result ≡ max (div_ceil t.clients 2) (t.first + t.second) = omega arith in
    let fits : c.max-part_b.result + (t.clients - t.of_r) < 2 ^ 63 = omega arith in
    let sum_fits : SFits w64 (t.house +ℤ pos (c.max-part_b.result + (t.clients - t.of_r))) = rw part_b (total_fits _ c.requires) in
    simp (back (house_fits c.requires), to_z_pos w64 _ fits, back sum_fits) (rw part_b (ended _))
