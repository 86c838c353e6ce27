-- What calls write of members that join or leave. Every kept day was accepted under the opening that is held, so an absent member has no account
-- in it; the sums leave its shares out, which are 0. With it the claim is whole: `presence`.
use mathlib.Core.Path.{◌≡◌, refl, sym, ap, subst, ◌∙◌}
use mathlib.Core.Bool.{Bool, true, false, cond}
use mathlib.Core.List.{List, [], ◌∷◌, ◌++◌}
use Prim.Native.Nat.{ℕ, ◌-◌, ◌*◌, ◌≤◌, ◌<◌}
use native.Mathlib.Omega.{arith}
use lib.Dec.{eqb}
use lib.ListN.{length, replicate}
use borrow.Author.Tests.{eqb-false}
use Rattle.std.specs.List.{AllByRecursion}
use Rattle.numbers.specs.Sums.{Σ}
use Rattle.numbers.specs.Rounding.{ceil_div}
use Rattle.numbers.proofs.Lists.{◌∈◌, mem_keep, every_mem}
use Rattle.numbers.proofs.Rounding.{ceil_le}
use Rattle.numbers.proofs.Sums.{Σ-left_out}
use Rattle.methodology.specs.declared.Opening.{Opening}
use Rattle.methodology.specs.declared.Refusal.TheVariants.{BadPresence}
use Rattle.methodology.specs.Account.{present, DayInput, accounts}
use Rattle.methodology.specs.Member.{accounts_of, loss}
use Rattle.methodology.specs.Day.{total, scale, share, five, dailies}
use Rattle.methodology.specs.Contribution.{KeptDay, reported_max_eul, highest, counted, sum_of_shares, charge, raw, funded, unfunded, three, contributions}
use Rattle.methodology.specs.Refusals.{clear, is_open, bad_opening}
use Rattle.methodology.specs.Register.{Call, Register, start, refusal, accept, step, returned, written, accepted, refused_at, answer, buffer}
use Rattle.methodology.specs.Text.{stretch}
use Rattle.methodology.proofs.Passed.{step_clear, either}
use Rattle.methodology.proofs.Counted.{counted_some}
use Rattle.period.specs.declared.Period.{Period}
use Rattle.period.specs.Calls.{held_by, opening_row, opened_period, day_row, sized_period, closing_row, closed_period}
use Rattle.period.specs.Follows.{Reached, fresh, by_opening, by_day, by_closing}
use Rattle.period.proofs.Reach.{opening_back, opening_passed, status_counts}
use Rattle.demand3.specs.Made.{Asked, Made, call_of}
use Rattle.demand3.specs.Demand3.{raw_in, Holds, register_after}
use Rattle.demand3.proofs.Covering.{raw_is}
use Rattle.demand3.proofs.EveryList.{last_agrees}
use Rattle.fund.proofs.Dailies.{five_wide}
use Rattle.answers.proofs.RefusalRows.{is_clear, is_told}
use Rattle.as_printed.proofs.DaySums.{stretch_is}
use Rattle.presence.specs.Presence.{GoodPresence, days_present, charge_by_days_present, FirstBad, Presence}
use Rattle.presence.proofs.Row10.{present_within, present_if, lists_long, row_1_passes, refused_by_10, opens, named, reported_by_10}
use Rattle.presence.proofs.AcceptedDays.{nobody_present, loss_none, share_none, five_of_none, day_has}

-- ---- the days that a register keeps

-- an absent member has no account in them
abbrev Kept : Register → Type 0
Kept g = AllByRecursion (λ (d : KeptDay). (m : ℕ) → present g.held d.number m ≡ false → accounts_of m d.accounts ≡ []) g.days

step_keeps : (g : Register) (c : Call) → Kept g → Kept (step g c)
unfolding step accept
step_keeps g (Call.opening o) k = either Kept (refusal g (Call.opening o)) _ g (λ e. tt) k
step_keeps g (Call.day d room) k = either Kept (refusal g (Call.day d room)) _ g (λ e. ((day_has g d room e).no_account, k)) k
step_keeps g (Call.closing room) k = either Kept (refusal g (Call.closing room)) _ g (λ e. k) k

keeps : (g : Register) (cs : List Made) → Kept g → Kept (register_after g cs)
keeps g [] k = k
keeps g (c ∷ cs) k = keeps (step g (call_of c.asked)) cs (step_keeps g (call_of c.asked) k)

pub kept : (cs : List Made) → Kept (register_after start cs)
kept cs = keeps start cs tt

-- ---- a day

day_writes : (cs : List Made) (c : Made) (d : DayInput) (out figures : List ℕ) → Holds start (cs ++ (c ∷ []))
    → c.asked ≡ Asked.day d out → c.answer ≡ accepted figures
    → let g = register_after start cs in
    (m : ℕ) → 1 ≤ m → m ≤ g.held.n → present g.held d.terms.number m ≡ false → stretch 5 m c.after ≡ replicate 5 0
unfolding answer buffer accept returned written dailies
day_writes cs c d out figures holds is said m low high absent =
    let g = register_after start cs in
    let o = g.held in
    let call = Call.day d (length out) in
    let accts = accounts o.k d in
    let agreed = last_agrees start cs c holds in
    let answered : answer g call ≡ accepted figures = rw is at (sym agreed.answer ∙ said) in
    let (passes, _) = is_clear (refusal g call) _ _ answered in
    let left = step_clear g call passes in
    let wrote : c.after ≡ written (accept g call) call = agreed.buffer ∙ rw (is, passes) (ap (λ (x : Register). written x call) left) in
    let Max = reported_max_eul o (accept g call).days in
    let T = total o accts in
    ap (stretch 5 m) wrote
    ∙ stretch_is 5 (λ m. five (loss o.k accts m) Max T) (λ m. five_wide (loss o.k accts m) Max T) o.n m low high
    ∙ ap (λ (e : ℕ). five e Max T) ((day_has g d (length out) passes).no_loss m absent)
    ∙ five_of_none Max T

-- ---- a closing

-- the sum of a member's shares is that over the days on which it is present
module _ (g : Register) (k : Kept g) (m : ℕ) where
  abbrev days : List KeptDay
  days = counted g.held g.days

  abbrev share_on : KeptDay → ℕ
  share_on d = share (loss g.held.k d.accounts m) (total g.held d.accounts)

  share_absent : (d : KeptDay) → d ∈ days → present g.held d.number m ≡ false → share_on d ≡ 0
  unfolding counted
  share_absent d i absent =
      let (inside, _) = mem_keep _ g.days i in
      let none = loss_none g.held.k d.accounts m (every_mem _ g.days k d inside m absent) in
      ap (λ (e : ℕ). share e (total g.held d.accounts)) none ∙ share_none _ (counted_some g.held g.days i)

  raw_by_present : raw g.held g.days m ≡ charge_by_days_present g m
  unfolding raw sum_of_shares
  raw_by_present =
      ap (λ (S : ℕ). charge (highest g.held g.days) S (length days)) (Σ-left_out (λ (d : KeptDay). present g.held d.number m) days share_on share_absent)

-- of no share the charge is 0
charge_none : (M D : ℕ) → charge M 0 D ≡ 0
unfolding charge
charge_none M D = by (eqb D 0) refl
  where
    by : (t : Bool) → eqb D 0 ≡ t → cond t 0 (ceil_div (11 * M * 0) (10 * D * scale)) ≡ 0
    by true e = refl
    by false e =
        let some : 0 < D = let other = eqb-false D 0 e in omega arith in
        omega (arith, ceil_le (11 * M * 0) (10 * D * scale) (omega (arith, some)) 0 (omega arith))

module _ (cs : List Made) (c : Made) (out figures : List ℕ) (holds : Holds start (cs ++ (c ∷ [])))
    (is : c.asked ≡ Asked.closing out) (said : c.answer ≡ accepted figures) where
  abbrev g : Register
  g = register_after start cs

  wrote : c.after ≡ contributions g.held g.days
  unfolding answer buffer accept returned written
  wrote =
      let call = Call.closing (length out) in
      let agreed = last_agrees start cs c holds in
      let answered : answer g call ≡ accepted figures = rw is at (sym agreed.answer ∙ said) in
      let (passes, _) = is_clear (refusal g call) _ _ answered in
      agreed.buffer ∙ rw (is, passes) (ap (λ (x : Register). written x call) (step_clear g call passes))

  module _ (m : ℕ) (low : 1 ≤ m) (high : m ≤ g.held.n) where
    closing_charges : raw_in c.after m ≡ charge_by_days_present g m
    closing_charges = ap (λ (l : List ℕ). raw_in l m) wrote ∙ raw_is g.held g.days m low high ∙ raw_by_present g (kept cs) m

    absent_throughout : days_present g.held m (counted g.held g.days) ≡ [] → stretch 3 m c.after ≡ 0 ∷ 50000000 ∷ 100000000 ∷ []
    unfolding contributions three funded unfunded Σ
    absent_throughout none =
        let raw_0 : raw g.held g.days m ≡ 0 = raw_by_present g (kept cs) m ∙ rw none (charge_none _ _) in
        ap (stretch 3 m) wrote ∙ stretch_is 3 (λ m. three (raw g.held g.days m)) (λ m. refl) g.held.n m low high ∙ rw raw_0 refl

-- ---- an opening

answered_by_10 : (cs : List Made) (c : Made) (o : Opening) (m : ℕ) → Holds start (cs ++ (c ∷ []))
    → c.asked ≡ Asked.opening o → c.answer ≡ refused_at 10 m
    → (is_open (register_after start cs).status ≡ false) × (bad_opening o ≡ false) × FirstBad o m
unfolding answer refusal
answered_by_10 cs c o m holds is said =
    let g = register_after start cs in
    let call = Call.opening o in
    let answered : answer g call ≡ refused_at 10 m = rw is at (sym (last_agrees start cs c holds).answer ∙ said) in
    let t = is_told (refusal g call) _ (BadPresence m) answered in
    named g.status o m t.met t.is t.number t.index

-- ---- a period

abbrev HeldPresence : Period → Type 0
HeldPresence p = (m : ℕ) → 1 ≤ m → m ≤ p.held.n → GoodPresence (held_by p) m

opened_presence : (p : Period) (o : Opening) → opening_row p o ≡ clear → HeldPresence (opened_period o)
opened_presence p o e m low high =
    let l = opening_passed p o e in
    let r = l.in_limits in
    let i : m - 1 < o.n = omega (arith, low, high) in
    subst (λ (o : Opening). GoodPresence o m) (sym (opening_back o r.groups_long r.firsts_long r.lasts_long r.members_few))
    (record { first_some = l.first_some (m - 1) i; in_order = l.in_order (m - 1) i; last_few = l.last_few (m - 1) i })

-- by the last call: an accepted opening is held, and no other call changes what is
held_presence : {p : Period} → Reached p → HeldPresence p
held_presence fresh = λ m low high. let no_way : ⊥ = omega (arith, low, high) in absurd no_way
held_presence (by_opening {p} {o} w m) =
    subst HeldPresence (sym m.period) (either HeldPresence (opening_row p o) (opened_period o) p (opened_presence p o) (held_presence w))
held_presence (by_day {p} {d} {before} w m) =
    let same = held_presence w in
    subst HeldPresence (sym m.period) (either HeldPresence (day_row p d (length before)) (sized_period p d) p (λ e. same) same)
held_presence (by_closing {p} {before} w m) =
    let same = held_presence w in
    subst HeldPresence (sym m.period) (either HeldPresence (closing_row p (length before)) (closed_period p) p (λ e. same) same)

-- ---- the claim

pub presence : Presence
presence =
    record {
      present_within = present_within;
      present_if = present_if;
      lists_long = lists_long;
      row_1_passes = row_1_passes;
      refused_by_10 = λ g o m closed good. refused_by_10 o g closed good m;
      opens = λ g o closed good. opens o g closed good;
      reported_by_10 = λ o m rest good first short. reported_by_10 o good short m rest first;
      day_has = day_has;
      nobody_present = nobody_present;
      answered_by_10 = answered_by_10;
      day_writes = day_writes;
      closing_charges = closing_charges;
      absent_throughout = absent_throughout;
      held_presence = held_presence;
      status_counts = status_counts;
    }
