-- The period that calls have left is the register's, and each call says and writes what the register does.
-- Every field is a function of what the register holds, `period_of`; so each call is one equation for the period after it.
use mathlib.Core.Path.{◌≡◌, refl, sym, ap, ap₂, ◌∙◌}
use mathlib.Core.Bool.{Bool, true, false, cond}
use mathlib.Core.List.{List, [], ◌∷◌, map, flat_map, map-map}
use Prim.Native.Nat.{ℕ, suc, ◌+◌, max}
use native.Mathlib.Nat.{add_comm, zero-add}
use native.Mathlib.Numerals.{add-one}
use native.Mathlib.Omega.{arith}
use lib.Dec.{ltb}
use lib.ListN.{length, get_or, replicate}
use borrow.Author.Tests.{lt-ltb}
use Rattle.numbers.specs.Sums.{Σ, greatest}
use Rattle.std.proofs.lemmas.List.FromFn.{get_or-map-range_with_len, take-map-range_with_len}
use Rattle.numbers.proofs.Lists.{mem_range, range_suc, map_eq}
use Rattle.std.specs.Prelude.{Ok, Err}
use Rattle.std.specs.List.{range_with_len}
use Rattle.methodology.specs.declared.Opening.{Opening}
use Rattle.methodology.specs.Account.{DayInput, Account, members, accounts}
use Rattle.methodology.specs.Member.{loss}
use Rattle.methodology.specs.Day.{total, own_max_eul, share, dailies}
use Rattle.methodology.specs.Contribution.{KeptDay, reported_max_eul, highest, counts, counted, sum_of_shares, funded, three}
use Rattle.methodology.specs.declared.Status.{Status}
use Rattle.methodology.specs.Refusals.{Verdict, clear, is_open, opening_refusal, day_refusal, closing_refusal}
use Rattle.methodology.specs.Register.{Call, Register, start, last_number, refusal, accept, if_accepted, step, returned, written, Answer, accepted, answer_by, answer, buffer}
use Rattle.methodology.proofs.Passed.{answer_is, buffer_is}
use Rattle.methodology.proofs.SoFar.{reported_is_m, reported_more}
use Rattle.methodology.proofs.Counted.{number_counted, sum_cons, sum_skip}
use Rattle.fund.specs.Shares.{plus_each}
use Rattle.fund.proofs.Contributions.{are_contributions, is_total_funded}
use Rattle.period.specs.declared.Period.{Period}
use Rattle.period.specs.Registered.{sum_at, period_of}
use Rattle.period.specs.Follows.{Reached, fresh, by_opening, by_day, by_closing, Good, Follows}
use Rattle.period.specs.Calls.{fresh_period, with_accrued, held_by, status_of, opening_row, opened_period, OpeningMeets, accounts_brought, total_by, day_row, reported_by, sized_period, DayMeets, closing_row, sums_held, charge_by, closed_period, ClosingMeets}
use Rattle.period.proofs.ByFields.{by_fields}
use Rattle.period.proofs.Reach.{opening_passed, opening_back, status_counts}

pub starts : Follows start fresh_period
unfolding period_of highest greatest counted
starts = record { is = refl; reached = fresh; good = record { groups_long = refl; firsts_long = refl; lasts_long = refl; members_few = omega arith } }

held_is : (g : Register) → Good g.held → held_by (period_of g) ≡ g.held
unfolding period_of
held_is g q = opening_back g.held q.groups_long q.firsts_long q.lasts_long q.members_few

-- the sums that it holds
sums_are : (g : Register) → Good g.held → sums_held (period_of g) ≡ map (sum_of_shares g.held g.days) (members g.held.n)
unfolding period_of
sums_are g q =
    let f = sum_of_shares g.held g.days in
    take-map-range_with_len (sum_at g.held g.days) 0 32 g.held.n q.members_few
    ∙ map_eq _ (λ i. f (suc i)) (range_with_len 0 g.held.n) (λ i m. rw (lt-ltb i g.held.n (omega (arith, (mem_range 0 g.held.n m).1))) (ap f (add-one i)))
    ∙ sym (map-map f suc (range_with_len 0 g.held.n))
    ∙ ap (map f) (range_suc 0 g.held.n)

-- ---- one call, by what the refusal table says: a refused call leaves all as it was, an accepted one leads the register and the period on

by_row : (x : Verdict) (g after : Register) {p q : Period} → p ≡ period_of g → Good g.held → (x ≡ clear → (q ≡ period_of after) × Good after.held)
    → (if_accepted x q p ≡ period_of (if_accepted x after g)) × Good (if_accepted x after g).held
by_row (Ok _) g after e h f = f refl
by_row (Err met) g after e h f = (e, h)

-- a figure, or a list of them, that only an accepted call gives
accepted_by : {A : Type 0} (x : Verdict) (w v rest : A) → (x ≡ clear → w ≡ v) → if_accepted x w rest ≡ if_accepted x v rest
accepted_by (Ok _) w v rest h = h refl
accepted_by (Err met) w v rest h = refl

answer_by_lem : (x : Verdict) (w v : List ℕ) → (x ≡ clear → w ≡ v) → answer_by x w ≡ answer_by x v
answer_by_lem (Ok _) w v h = ap accepted (h refl)
answer_by_lem (Err met) w v h = refl

-- the same where the period's row is the register's
module _ (g : Register) (c : Call) (x : Verdict) (same : x ≡ refusal g c) where
  leads : {p q after : Period} → Follows g p → after ≡ if_accepted x q p → Reached after → (x ≡ clear → (q ≡ period_of (accept g c)) × Good (accept g c).held) → Follows (step g c) after
  unfolding step
  leads {p} {q} f d w h =
      let (i, k) = by_row (refusal g c) g (accept g c) f.is f.good (λ e. h (same ∙ e)) in
      record { is = d ∙ ap (λ (y : Verdict). if_accepted y q p) same ∙ i; reached = w; good = k }

  tells : (figures : List ℕ) {told : Answer} → told ≡ answer_by x figures → (x ≡ clear → figures ≡ returned (accept g c) c) → told ≡ answer g c
  tells figures d h =
      d ∙ ap (λ (y : Verdict). answer_by y figures) same
      ∙ answer_by_lem (refusal g c) figures (returned (accept g c) c) (λ e. h (same ∙ e)) ∙ sym (answer_is g c)

  fills : (w before : List ℕ) {after : List ℕ} → after ≡ if_accepted x w before → (x ≡ clear → w ≡ written (accept g c) c) → after ≡ buffer g c before
  fills w before d h =
      d ∙ ap (λ (y : Verdict). if_accepted y w before) same
      ∙ accepted_by (refusal g c) w (written (accept g c) c) before (λ e. h (same ∙ e)) ∙ sym (buffer_is g c before)

-- the status that counts is open just when the register's is
open_alike : {g : Register} {p : Period} → Follows g p → is_open (status_of p) ≡ is_open g.status
unfolding period_of
open_alike f = status_counts f.reached ∙ ap (λ (p : Period). is_open p.status) f.is

-- ---- opening

no_sums : (o : Opening) → replicate 32 0 ≡ map (sum_at o []) (range_with_len 0 32)
unfolding sum_of_shares counted Σ
no_sums o = map_eq (λ i. 0) (sum_at o []) (range_with_len 0 32) (λ i m. by (ltb i o.n))
  where
    by : (b : Bool) → ◌≡◌ {A = ℕ} 0 (cond b 0 0)
    by true = refl
    by false = refl

opening_row_lem : {g : Register} {p : Period} → Follows g p → (o : Opening) → opening_row p o ≡ refusal g (Call.opening o)
unfolding opening_row refusal opening_refusal
opening_row_lem f o = rw (open_alike f)

opened_is : (g : Register) (o : Opening) → opened_period o ≡ period_of (accept g (Call.opening o))
unfolding period_of accept highest greatest counted
opened_is g o = ap (with_accrued (opened_period o)) (by_fields refl refl refl (no_sums o))

opened_good : (g : Register) (p : Period) (o : Opening) → opening_row p o ≡ clear → Good (accept g (Call.opening o)).held
unfolding accept
opened_good g p o e =
    let l = (opening_passed p o e).in_limits in
    record { groups_long = l.groups_long; firsts_long = l.firsts_long; lasts_long = l.lasts_long; members_few = l.members_few }

pub opening_follows : {g : Register} {p left : Period} {o : Opening} {said : Answer} → Follows g p → OpeningMeets p o said left
    → Follows (step g (Call.opening o)) left × (said ≡ answer g (Call.opening o))
unfolding returned
opening_follows {g} {p} {o} f m =
    let same = opening_row_lem f o in (
      leads g (Call.opening o) (opening_row p o) same f m.period (by_opening f.reached m) (λ e. (opened_is g o, opened_good g p o e)),
      tells g (Call.opening o) (opening_row p o) same [] m.answer (λ e. refl),
    )

-- ---- day

pub held_by_lem : {g : Register} {p : Period} → Follows g p → held_by p ≡ g.held
held_by_lem {g} f = ap held_by f.is ∙ held_is g f.good

-- of the status a day's rows ask whether it is open, and no more
day_alike : (s t : Status) (o : Opening) (last : ℕ) (d : DayInput) (room : ℕ) → is_open s ≡ is_open t
    → day_refusal s o last d room ≡ day_refusal t o last d room
unfolding day_refusal
day_alike s t o last d room e = rw e refl

pub day_row_lem : {g : Register} {p : Period} → Follows g p → (d : DayInput) (room : ℕ) → day_row p d room ≡ refusal g (Call.day d room)
unfolding day_row refusal period_of
day_row_lem {g} {p} f d room =
    let l : p.accrued.last ≡ last_number g.days = ap (λ (p : Period). p.accrued.last) f.is in
    ap₂ (λ (o : Opening) (last : ℕ). day_refusal (status_of p) o last d room) (held_by_lem f) l
    ∙ day_alike (status_of p) g.status g.held (last_number g.days) d room (open_alike f)

-- the day that is kept
module _ (g : Register) (q : Good g.held) (d : DayInput) where
  abbrev accts : List Account
  accts = accounts g.held.k d

  abbrev kept : KeptDay
  kept = record { number = d.terms.number; accounts = accts }

  -- the sums after it, with its shares where it counts
  abbrev share_of : Opening → (i : ℕ) → ℕ
  share_of o i = cond (ltb i g.held.n) (share (loss g.held.k accts (i + 1)) (total o accts)) 0

  added : (b : Bool) (x y : ℕ) → cond b x 0 + cond b y 0 ≡ cond b (y + x) 0
  added true x y = add_comm x y
  added false x y = refl

  sums_after : (t : Bool) → counts (total g.held accts) ≡ t
      → let sums = map (sum_at g.held g.days) (range_with_len 0 32) in
      cond t (plus_each sums (share_of g.held)) sums ≡ map (sum_at g.held (kept ∷ g.days)) (range_with_len 0 32)
  sums_after true e =
      map_eq (λ i. get_or (map (sum_at g.held g.days) (range_with_len 0 32)) i 0 + share_of g.held i) (sum_at g.held (kept ∷ g.days)) (range_with_len 0 32)
      (λ i m.
      rw (
        get_or-map-range_with_len (sum_at g.held g.days) 0 32 i i 0 (omega (arith, (mem_range 0 32 m).1)) (zero-add i),
        sum_cons g.held kept g.days (i + 1) e,
      )
      (added (ltb i g.held.n) _ _))
  sums_after false e =
      map_eq (sum_at g.held g.days) (sum_at g.held (kept ∷ g.days)) (range_with_len 0 32) (λ i m. rw (sum_skip g.held kept g.days (i + 1) e) refl)

  -- what it reports: M of the days before, or its own where that is greater
  reported_is : reported_by (period_of g) d ≡ reported_max_eul g.held (kept ∷ g.days)
  unfolding period_of
  reported_is =
      ap (λ (o : Opening). max (highest g.held g.days) (own_max_eul o accts)) (held_is g q) ∙ omega (arith, reported_more g.held kept g.days)

  sized_is : (room : ℕ) → sized_period (period_of g) d ≡ period_of (accept g (Call.day d room))
  unfolding period_of accept
  sized_is room =
      let sums = map (sum_at g.held g.days) (range_with_len 0 32) in
      ap (with_accrued (period_of g))
      (by_fields refl
      (rw (held_is g q) (sym (number_counted g.held kept g.days)))
      (reported_is ∙ reported_is_m g.held (kept ∷ g.days))
      (ap (λ (o : Opening). cond (counts (total o accts)) (plus_each sums (share_of o)) sums) (held_is g q) ∙ sums_after (counts (total g.held accts)) refl))

  sized_good : (room : ℕ) → Good (accept g (Call.day d room)).held
  unfolding accept
  sized_good room = q

  day_says : (room : ℕ) → total_by (period_of g) d ∷ reported_by (period_of g) d ∷ []
      ≡ returned (accept g (Call.day d room)) (Call.day d room)
  unfolding period_of accept returned
  day_says room = rw (reported_is, held_is g q)

  as_written : (room : ℕ) → dailies (held_by (period_of g)) (reported_by (period_of g) d) (accounts_brought (period_of g) d)
      ≡ written (accept g (Call.day d room)) (Call.day d room)
  unfolding period_of accept written
  as_written room = rw (reported_is, held_is g q)

pub day_writes : {g : Register} {p : Period} → Follows g p → (d : DayInput) (room : ℕ)
    → dailies (held_by p) (reported_by p d) (accounts_brought p d) ≡ written (accept g (Call.day d room)) (Call.day d room)
day_writes {g} f d room = ap (λ (p : Period). dailies (held_by p) (reported_by p d) (accounts_brought p d)) f.is ∙ as_written g f.good d room

pub day_follows : {g : Register} {p left : Period} {d : DayInput} {before after : List ℕ} {said : Answer} → Follows g p → DayMeets p d before said left after
    → Follows (step g (Call.day d (length before))) left
    × (said ≡ answer g (Call.day d (length before))) × (after ≡ buffer g (Call.day d (length before)) before)
day_follows {g} {p} {d} {before} f m =
    let room = length before in
    let c = Call.day d room in
    let same = day_row_lem f d room in (
      leads g c (day_row p d room) same f m.period (by_day f.reached m)
          (λ e. (ap (λ (p : Period). sized_period p d) f.is ∙ sized_is g f.good d room, sized_good g f.good d room)),
      tells g c (day_row p d room) same _ m.answer
          (λ e. ap (λ (p : Period). total_by p d ∷ reported_by p d ∷ []) f.is ∙ day_says g f.good d room),
      fills g c (day_row p d room) same _ before m.buffer
          (λ e. day_writes f d room),
    )

-- ---- closing

pub closing_row_lem : {g : Register} {p : Period} → Follows g p → (room : ℕ) → closing_row p room ≡ refusal g (Call.closing room)
unfolding closing_row refusal closing_refusal period_of
closing_row_lem f room = rw (open_alike f, f.is)

closed_good : (g : Register) (room : ℕ) → Good g.held → Good (accept g (Call.closing room)).held
unfolding accept
closed_good g room q = q

closed_is : (g : Register) (room : ℕ) → closed_period (period_of g) ≡ period_of (accept g (Call.closing room))
unfolding period_of accept
closed_is g room = refl

abbrev closing_figures : Period → List ℕ
closing_figures p = p.accrued.days ∷ p.accrued.highest ∷ Σ (sums_held p) (λ s. funded (charge_by p s)) ∷ []

closing_says : (g : Register) → Good g.held → (room : ℕ) → closing_figures (period_of g) ≡ returned (accept g (Call.closing room)) (Call.closing room)
unfolding period_of accept returned
closing_says g q room =
    ap (λ (funds : ℕ). length (counted g.held g.days) ∷ highest g.held g.days ∷ funds ∷ [])
    (is_total_funded g.held g.days (period_of g).accrued.sums (sums_are g q))

closing_writes : (g : Register) → Good g.held → (room : ℕ)
    → flat_map (λ s. three (charge_by (period_of g) s)) (sums_held (period_of g)) ≡ written (accept g (Call.closing room)) (Call.closing room)
unfolding period_of accept written
closing_writes g q room = are_contributions g.held g.days (period_of g).accrued.sums (sums_are g q)

pub closing_follows : {g : Register} {p left : Period} {before after : List ℕ} {said : Answer} → Follows g p → ClosingMeets p before said left after
    → Follows (step g (Call.closing (length before))) left
    × (said ≡ answer g (Call.closing (length before))) × (after ≡ buffer g (Call.closing (length before)) before)
closing_follows {g} {p} {before} f m =
    let room = length before in
    let same = closing_row_lem f room in (
      leads g (Call.closing room) (closing_row p room) same f m.period (by_closing f.reached m) (λ e. (ap closed_period f.is ∙ closed_is g room, closed_good g room f.good)),
      tells g (Call.closing room) (closing_row p room) same (closing_figures p) m.answer (λ e. ap closing_figures f.is ∙ closing_says g f.good room),
      fills g (Call.closing room) (closing_row p room) same _ before m.buffer (λ e. ap (λ (p : Period). flat_map (λ s. three (charge_by p s)) (sums_held p)) f.is ∙ closing_writes g f.good room),
    )
