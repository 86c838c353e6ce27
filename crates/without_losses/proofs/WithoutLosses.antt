-- A day without losses: what it answers, writes and leaves, by its T of 0 and the laws of the days that count; that a closing after such days
-- alone is one without days; and what a day put in changes (PutIn.antt). By demand 3 so it is in every list of calls. With it the claim is
-- whole: `without_losses`.
use mathlib.Core.Path.{◌≡◌, refl, sym, ap, subst, ◌∙◌}
use mathlib.Core.Bool.{true, false, not}
use mathlib.Core.List.{List, [], ◌∷◌, ◌++◌, map, flat_map}
use Prim.Native.Nat.{ℕ, ◌+◌, ◌*◌, ◌≤◌}
use native.Mathlib.Omega.{arith}
use lib.ListN.{length, get_or, drop}
use borrow.Author.Tests.{le-leb, eq-eqb, not-false}
use Rattle.std.proofs.Math.Bool.{or-true}
use Rattle.std.specs.List.{range_with_len}
use Rattle.std.proofs.lemmas.List.Folds.{fold-map}
use Rattle.numbers.proofs.Lists.{map_eq, range_mem}
use Rattle.methodology.specs.declared.Status.TheVariants.{Open}
use Rattle.methodology.specs.declared.Refusal.TheVariants.{OutOfTurn}
use Rattle.methodology.specs.declared.Opening.{Opening}
use Rattle.methodology.specs.Account.{DayInput, Account, members, accounts}
use Rattle.methodology.specs.Member.{loss}
use Rattle.methodology.specs.Day.{total, five, dailies}
use Rattle.methodology.specs.Contribution.{KeptDay, reported_max_eul, highest, counts}
use Rattle.methodology.specs.Refusals.{clear, row◌when◌else◌, is_open, outside, bad_input, bad_day_number, day_rows, day_refusal}
use Rattle.methodology.specs.Register.{Call, Register, start, last_number, refusal, accept, step, returned, written, accepted, refused, answer, buffer}
use Rattle.methodology.proofs.Passed.{passed, step_clear}
use Rattle.validation.specs.Passing.{Passes}
use Rattle.methodology.proofs.Counted.{counted_skip, sum_skip}
use Rattle.methodology.proofs.SoFar.{reported_is_m}
use Rattle.exposure.proofs.MaxTotal.{loss_le_total, own_none, highest_skip, highest_counted}
use Rattle.period.specs.Calls.{with_accrued}
use Rattle.period.specs.Registered.{sum_at, period_of}
use Rattle.period.proofs.ByFields.{by_fields}
use Rattle.demand3.specs.Made.{Asked, Made, lent, call_of}
use Rattle.demand3.specs.Demand3.{Agrees, Holds, register_after}
use Rattle.demand3.proofs.EveryList.{holds_from, last_agrees}
use Rattle.demand3.proofs.Demand3.{made_of}
use Rattle.answers.proofs.RefusalRows.{is_clear}
use Rattle.as_printed.specs.AsPrinted.{register_fed}
use Rattle.not_begun.proofs.NotBegun.{not_begun}
use Rattle.not_begun.proofs.NeverOccurs.{number_7_never_occurs}
use Rattle.demand3.proofs.Demand3Proved.{demand_3, compiled_holds}
use Rattle.without_losses.specs.PutIn.{AcceptedWithout, SameOr3, EachSameOr3}
use Rattle.without_losses.specs.WithoutLosses.{with_last, DayWithout, AllWithout, days_dropped, ClosesWithout, calls_of, MadeSameOr3, EachMadeSameOr3, PutIn, WithoutLosses}
use Rattle.without_losses.proofs.Accepted.{day_accepted, there_is_one}
use Rattle.without_losses.proofs.PutIn.{left_out, put_into_days, kept_day, each_refl, put_into_calls}
use Rattle.without_losses.proofs.OnlyWithout.{as_not_begun}

losses_none : (o : Opening) (accts : List Account) (m : ℕ) → 1 ≤ m → m ≤ o.n → total o accts ≡ 0 → loss o.k accts m ≡ 0
losses_none o accts m low high none = omega (arith, none, loss_le_total o accts {m = m} (range_mem 1 o.n low (omega arith)))

-- ---- the day itself

module _ (g : Register) (d : DayInput) (room : ℕ) (s : AcceptedWithout g d room) where
  abbrev call : Call
  call = Call.day d room

  abbrev kept : KeptDay
  kept = kept_day g.held d

  left : step g call ≡ accept g call
  left = step_clear g call s.passes

  reports : reported_max_eul g.held (kept ∷ g.days) ≡ highest g.held g.days
  reports = reported_is_m g.held (kept ∷ g.days) ∙ highest_skip g.held kept g.days s.without

  says : answer g call ≡ accepted (0 ∷ highest g.held g.days ∷ [])
  unfolding answer accept returned
  says = rw (s.passes, left, s.without, reports)

  writes : (before : List ℕ) → buffer g call before ≡ flat_map (λ m. 0 ∷ 0 ∷ 0 ∷ 0 ∷ 0 ∷ []) (members g.held.n)
  unfolding buffer accept written dailies five
  writes before = rw (s.passes, left, s.without) refl

  leaves : period_of (step g call) ≡ with_last d.terms.number (period_of g)
  unfolding period_of accept
  leaves =
      let out-of-d : counts (total g.held kept.accounts) ≡ false = rw s.without refl in
      rw left
      (ap (with_accrued (period_of g))
      (by_fields refl (ap length (counted_skip g.held kept g.days out-of-d)) (highest_skip g.held kept g.days s.without)
      (map_eq (sum_at g.held (kept ∷ g.days)) (sum_at g.held g.days) (range_with_len 0 32) (λ i m. rw (sum_skip g.held kept g.days (i + 1) out-of-d) refl))))

-- the next number has to be above its own
number_counts : (g : Register) (d : DayInput) (room : ℕ) → AcceptedWithout g d room
    → (e : DayInput) → bad_input g.held e ≡ false → e.terms.number ≤ d.terms.number
    → answer (step g (Call.day d room)) (Call.day e (5 * g.held.n)) ≡ refused 3
unfolding answer refusal accept day_refusal day_rows bad_day_number row◌when◌else◌
number_counts g d room s e input low =
    let opened : is_open g.status ≡ true = not-false _ (passed OutOfTurn (not (is_open g.status)) _ s.passes).0 in
    rw (
      left g d room s,
      opened,
      eq-eqb (5 * g.held.n) (5 * g.held.n) refl,
      input,
      le-leb e.terms.number d.terms.number low,
      or-true (outside 1 31 e.terms.number),
    )
    refl

-- ---- the last call of a list of which demand 3 holds

of_day : (cs : List Made) (c : Made) (d : DayInput) (out : List ℕ) → Holds start (cs ++ (c ∷ [])) → c.asked ≡ Asked.day d out
    → let g = register_after start cs in
    g.status ≡ Open → length out ≡ 5 * g.held.n → Passes g.held (last_number g.days) d → total g.held (accounts g.held.k d) ≡ 0 → DayWithout g d c
of_day cs c d out holds is opened wide passes none =
    let g = register_after start cs in
    let s : AcceptedWithout g d (length out) = record { passes = day_accepted g d (length out) opened wide passes; without = none } in
    let agreed = last_agrees start cs c holds in
    record {
      says = agreed.answer ∙ rw is (says g d (length out) s);
      writes = agreed.buffer ∙ rw is (writes g d (length out) s out);
      leaves = agreed.period ∙ rw is (leaves g d (length out) s);
    }

of_closing : (cs : List Made) (c : Made) (out : List ℕ) → Holds start (cs ++ (c ∷ [])) → c.asked ≡ Asked.closing out
    → AllWithout (register_after start cs) → ClosesWithout (register_after start cs) out c
of_closing cs c out holds is all =
    let g = register_after start cs in
    let agreed = last_agrees start cs c holds in
    let (answers, writes) = as_not_begun g (length out) out all in
    let says = agreed.answer ∙ rw is answers in
    let wrote = agreed.buffer ∙ rw is writes in
    record {
      as_no_day = (says, wrote);
      figures =
          λ opened long.
          let none = (not_begun.closes (days_dropped g) out (record { opened = opened; none = refl }) long).0 in
          record { says = says ∙ none.says; writes = wrote ∙ none.writes };
    }

-- ---- a day put in

-- the register after calls that were made goes by what they asked alone
as_fed : (g : Register) (cs : List Made) → register_after g cs ≡ register_fed g (calls_of cs)
as_fed g cs = sym (fold-map step (λ c. call_of c.asked) g cs)

-- what an accepted call leaves does not go by what its buffer held
written_over : (g : Register) (c : Call) (before before' : List ℕ) → refusal g c ≡ clear → buffer g c before ≡ buffer g c before'
unfolding buffer
written_over g c before before' passes = rw passes refl

-- two calls of two lists that agree with these registers
one_made : (number : ℕ) (g g' : Register) (c c' : Made) → call_of c.asked ≡ call_of c'.asked
    → SameOr3 number (call_of c.asked) (answer g (call_of c.asked)) (answer g' (call_of c.asked))
    → ((before : List ℕ) → buffer g (call_of c.asked) before ≡ buffer g' (call_of c.asked) before)
    → Agrees g c → Agrees g' c' → MadeSameOr3 number c c'
unfolding answer
one_made number g g' c c' asked said wrote agreed agreed' =
    let call = call_of c.asked in
    let passes : (figures : List ℕ) → c.answer ≡ accepted figures → refusal g call ≡ clear =
    λ figures is. (is_clear (refusal g call) _ figures (sym agreed.answer ∙ is)).0 in
    record {
      answers = rw (agreed.answer, agreed'.answer, sym asked) said;
      writes =
          λ figures is.
          agreed.buffer ∙ written_over g call (lent c.asked) (lent c'.asked) (passes figures is) ∙ wrote (lent c'.asked)
          ∙ ap (λ (call : Call). buffer g' call (lent c'.asked)) asked ∙ sym agreed'.buffer;
    }

each_made : (number : ℕ) (g g' : Register) (cs cs' : List Made) → calls_of cs ≡ calls_of cs' → EachSameOr3 number g g' (calls_of cs)
    → Holds g cs → Holds g' cs' → EachMadeSameOr3 number cs cs'
each_made number g g' [] [] e u h h' = tt
each_made number g g' [] (c' ∷ cs') e u h h' = let long = ap length e in absurd (omega (arith, long))
each_made number g g' (c ∷ cs) [] e u h h' = let long = ap length e in absurd (omega (arith, long))
each_made number g g' (c ∷ cs) (c' ∷ cs') e (said, wrote, more) (agreed, _, h) (agreed', _, h') =
    let asked : call_of c.asked ≡ call_of c'.asked = ap (λ (l : List Call). get_or l 0 (call_of c.asked)) e in
    let later = subst (λ (call : Call). EachSameOr3 number (step g (call_of c.asked)) (step g' call) (calls_of cs)) asked more in (
      one_made number g g' c c' asked said wrote agreed agreed',
      each_made number (step g (call_of c.asked)) (step g' (call_of c'.asked)) cs cs' (ap (drop 1) e) later h h',
    )

-- demand 3 of the first calls of a list
holds_first : (g : Register) (cs ds : List Made) → Holds g (cs ++ ds) → Holds g cs
holds_first g [] ds h = tt
holds_first g (c ∷ cs) ds (agreed, covers, h) = (agreed, covers, holds_first (step g (call_of c.asked)) cs ds h)

of_list : (earlier later earlier' : List Made) (x : Made) (later' : List Made) → Holds start (earlier ++ later) → Holds start (earlier' ++ (x ∷ later'))
    → (p : PutIn earlier later earlier' x later')
    → EachMadeSameOr3 p.d.terms.number earlier earlier' × EachMadeSameOr3 p.d.terms.number later later'
of_list earlier later earlier' x later' without with p =
    let g = register_after start earlier in
    let g' = register_after start earlier' in
    let day = Call.day p.d (length p.out) in
    let same : g' ≡ g = as_fed start earlier' ∙ ap (register_fed start) (sym p.same_earlier) ∙ sym (as_fed start earlier) in
    let (_, _, after) = holds_from start earlier' (x ∷ later') with in
    let put : step g' (call_of x.asked) ≡ step g day = rw (same, p.x_is) refl in
    let number = p.d.terms.number in (
      each_made number start start earlier earlier' p.same_earlier (each_refl number start (calls_of earlier)) (holds_first start earlier later without)
          (holds_first start earlier' (x ∷ later') with),
      each_made number g (step g day) later later' p.same_later (put_into_calls g p.d (length p.out) (calls_of later) p.accepted_without p.below_next)
          (holds_from start earlier later without) (subst (λ (g : Register). Holds g later') put after),
    )

-- ---- the claim

pub without_losses : WithoutLosses
without_losses =
    record {
      day_accepted = day_accepted;
      there_is_one = there_is_one;
      losses_none = losses_none;
      own_none = own_none;
      day = λ cs c d out made. of_day cs c d out (demand_3.every_list (cs ++ (c ∷ [])) made);
      number_counts = number_counts;
      m_of_counted = highest_counted;
      left_out = left_out;
      closes = λ g before all. as_not_begun g (length before) before all;
      closing = λ cs c out made. of_closing cs c out (demand_3.every_list (cs ++ (c ∷ [])) made);
      put_into_days = put_into_days;
      put_into_calls = put_into_calls;
      put_into_lists =
          λ earlier later earlier' x later' without with.
          of_list earlier later earlier' x later' (demand_3.every_list (earlier ++ later) without) (demand_3.every_list (earlier' ++ (x ∷ later')) with);
      number_7 = number_7_never_occurs;
      compiled_day = λ 𝓛 mem run cs c d out from. of_day (map made_of cs) (made_of c) d out (compiled_holds 𝓛 mem run cs (c ∷ []) from);
      compiled_closing = λ 𝓛 mem run cs c out from. of_closing (map made_of cs) (made_of c) out (compiled_holds 𝓛 mem run cs (c ∷ []) from);
      compiled_lists =
          λ 𝓛 mem run earlier later earlier' x later' without with.
          of_list (map made_of earlier) (map made_of later) (map made_of earlier') (made_of x) (map made_of later')
          (compiled_holds 𝓛 mem run earlier later without) (compiled_holds 𝓛 mem run earlier' (x ∷ later') with);
    }
