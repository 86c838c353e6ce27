-- `own_max_eul` meets its contract: the pass of `MaxPass`, member by member.
use mathlib.Core.Path.{◌≡◌, ◌∙◌}
use Prim.Native.Nat.{ℕ, ◌<◌}
use native.Mathlib.Omega.{arith}
use Rattle.std.proofs.Common.{length, take, get_or, get_or-take, length-take, length-take-le, rules}
use Rattle.methodology.specs.declared.Opening.{Opening}
use Rattle.methodology.specs.Account.{accounts}
use Rattle.methodology.specs.Brought.{day_brought}
use Rattle.exposure.proofs.Left.{from_first, left_first, left_own, left_next}
use Rattle.exposure.proofs.MaxPass.{max_none, max_more, max_all, rows_shape, row_long, row_near}
use Rattle.exposure.proofs.day.own_max_eul.Goals as goal

-- the group that the walk is at is that of member i + 1
at_group : (o : Opening) {i : ℕ} → i < length (take o.n o.groups) → (i < o.n) × (get_or (take o.n o.groups) i 0 ≡ get_or o.groups i 0)
at_group o {i} h =
    let less : i < o.n = omega (arith, length-take o.n o.groups) in
    (less, get_or-take o.n o.groups i 0 less)

pub loop-i-init : goal.loop-i-init
loop-i-init c =
    let o = c.args.opening in
    let d = day_brought c.args.day.now in
    let e = c.of_day-left.ensures in
    max_none o (accounts o.k d) (record { same = e.is.0; left = e.is.1 ∙ from_first o.k d c.requires.0.rising; rising = e.rising c.requires.0.rising })

pub split-requires : goal.split-requires
split-requires c = let p = c.loop-i.invariant.place in record { rising = p.rising; from = left_first p }

pub add_row-requires : goal.add_row-requires
add_row-requires c =
    let s = c.split in
    let p = c.loop-i.invariant in
    let q = left_own p.place s.result.0 s.ensures.own in
    let (h, group) = at_group c.args.opening c.loop-i-test.true in (
      rows_shape _ _ p (omega (arith, c.requires.0.members_few)),
      rw group (c.requires.1.few _ h),
      row_long _ _ p s.result.0 s.result.1 _ q c.row-row.ensures,
      row_near _ _ p s.result.0 s.result.1 _ q c.row-row.ensures,
    )

pub loop-i-preserved : goal.loop-i-preserved
loop-i-preserved c =
    let s = c.split in
    let p = c.loop-i.invariant in
    let (h, group) = at_group c.args.opening c.loop-i-test.true in
    rw (c.add_row.ensures, group)
    (max_more _ _ p s.result.0 s.result.1 _ (left_own p.place s.result.0 s.ensures.own) c.row-row.ensures h c.requires.0.scenarios_few (c.requires.1.few _ h)
    (left_next p.place s.result.1 s.ensures.others s.ensures.others_rising) _ _ c.row_greatest.ensures c.max-top.ensures)

pub returns : goal.returns
returns c =
    let s = c.requires in
    let long = length-take-le c.args.opening.n c.args.opening.groups (search rules) in
    max_all _ _ c.loop-i.invariant (omega (arith, long)) (omega (arith, long, c.loop-i-test.false)) s.0.scenarios_few s.1 _ _ c.rows_greatest.ensures c.max.ensures
