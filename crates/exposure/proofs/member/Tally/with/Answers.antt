-- `Tally::with` meets its contract: a house account and a client's are each a law of `Tallies`.
use Rattle.numbers.proofs.Signed.{back}
use Rattle.exposure.proofs.Tallies as tallies
use Rattle.exposure.proofs.Tallies.{house_fits, at_kind}
use Rattle.exposure.proofs.member.Tally.with.Goals as goal

pub returns-then-kind-eq-KIND_H : goal.returns-then-kind-eq-KIND_H
returns-then-kind-eq-KIND_H c =
    let p = c.requires in
    simp (back (house_fits p.0), back c.ranges.eul, back (tallies.sum_fits c.args.self c.args.eul p.0 p.2))
    (at_kind c.if-kind-eq-KIND_H.true (tallies.house _ _ p.0 p.2))

pub returns : goal.returns
returns c =
    let p = c.requires in
    let g = simp (back c.ranges.eul) at c.gain-gain.ensures in
    let r = c.only_of_r-of_r in
    simp (back (house_fits p.0), c.max-2.ensures, c.min.ensures, c.max.ensures, g)
    (tallies.client _ c.args.eul p.0 p.2 _ p.1 c.if-kind-eq-KIND_H.false r.result (rw g at r.ensures))
