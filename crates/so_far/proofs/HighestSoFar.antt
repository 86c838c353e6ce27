-- The highest so far: what a day reports is M of the days up to it, so M is the highest of what is reported, and the last. By demand 3 the
-- answers of every list of calls tell it, since a caller's notes are what the days that the register keeps report. With it the claim is
-- whole: `highest_so_far`.
use mathlib.Core.Path.{◌≡◌, refl, sym, ap, subst, ◌∙◌}
use mathlib.Core.List.{List, [], ◌∷◌, ◌++◌, map, map-append, flat_map}
use Prim.Native.Nat.{ℕ, ◌*◌, ◌≤◌, ◌<◌, max}
use native.Mathlib.Omega.{arith}
use lib.ListN.{length, get_or}
use Rattle.std.specs.List.{AllByRecursion}
use Rattle.std.proofs.lemmas.List.Folds.{fold-map}
use Rattle.std.proofs.lemmas.List.Sums.{fold-append}
use Rattle.numbers.specs.Sums.{greatest}
use Rattle.numbers.specs.Rounding.{round_div}
use Rattle.numbers.proofs.Rounding.{round_above, round_below}
use Rattle.numbers.proofs.Sums.{greatest_map}
use Rattle.methodology.specs.declared.Opening.{Opening}
use Rattle.methodology.specs.Account.{DayInput, members, accounts}
use Rattle.methodology.specs.Member.{loss}
use Rattle.methodology.specs.Day.{total, own_max_eul, value, reserve, estimate, five, dailies}
use Rattle.methodology.specs.Contribution.{KeptDay, reported_max_eul, highest}
use Rattle.methodology.specs.Refusals.{clear}
use Rattle.methodology.specs.Register.{Call, Register, start, refusal, accept, step, returned, written, accepted, answer, buffer}
use Rattle.methodology.proofs.Passed.{step_clear, opened_anew}
use Rattle.methodology.proofs.Counted.{counted_nil}
use Rattle.methodology.proofs.SoFar.{reported_is_m, reported_more}
use Rattle.fund.proofs.RawCharge.{highest_none}
use Rattle.demand3.specs.Made.{Asked, Made, call_of}
use Rattle.demand3.specs.Demand3.{Holds, register_after, Fits64}
use Rattle.demand3.proofs.EveryList.{holds_from, last_agrees, from_answers_lem}
use Rattle.demand3.proofs.Demand3.{made_of}
use Rattle.demand3.proofs.Demand3Proved.{demand_3, compiled_holds}
use Rattle.answers.proofs.RefusalRows.{is_clear}
use Rattle.as_printed.specs.AsPrinted.{AcceptedFits}
use Rattle.as_printed.proofs.EveryReport.{as_printed}
use Rattle.so_far.specs.HighestSoFar.{owns, reports, MIsTheSame, Nearest, note_accepted, noted, DayReports, opened_by, HighestSoFar}

-- ---- days

module _ (o : Opening) where
  none : highest o [] ≡ 0
  none = highest_none o [] (counted_nil o)

  owns_are : (days : List KeptDay) → highest o days ≡ greatest (owns o days) (λ x. x)
  unfolding highest
  owns_are days = sym (greatest_map (λ d. own_max_eul o d.accounts) days (λ x. x))

  reports_are : (days : List KeptDay) → highest o days ≡ greatest (reports o days) (λ x. x)
  unfolding greatest
  reports_are [] = none
  reports_are (d ∷ ds) = omega (arith, reported_is_m o (d ∷ ds), reported_more o d ds, reports_are ds)

  last_is : (days : List KeptDay) → highest o days ≡ get_or (reports o days) 0 0
  last_is [] = none
  last_is (d ∷ ds) = sym (reported_is_m o (d ∷ ds))

  m_is_the_same_lem : (days : List KeptDay) → MIsTheSame (owns o days) (reports o days) (highest o days)
  m_is_the_same_lem days = record { highest_own = owns_are days; highest_reported = reports_are days; last_reported = last_is days }

  -- what is reported is at most M
  none_above : (most : ℕ) (days : List KeptDay) → highest o days ≤ most → AllByRecursion (λ x. x ≤ most) (reports o days)
  none_above most [] h = tt
  none_above most (d ∷ ds) h =
      (omega (arith, reported_is_m o (d ∷ ds)), none_above most ds (omega (arith, reported_is_m o (d ∷ ds), reported_more o d ds)))

  first_is_own : (d : KeptDay) → reported_max_eul o (d ∷ []) ≡ own_max_eul o d.accounts
  first_is_own d = omega (arith, reported_more o d [], none)

  at_least_own : (d : KeptDay) (days : List KeptDay) → own_max_eul o d.accounts ≤ reported_max_eul o (d ∷ days)
  at_least_own d days = omega (arith, reported_more o d days)

  never_falls : (d : KeptDay) (days : List KeptDay) → AllByRecursion (λ x. x ≤ reported_max_eul o (d ∷ days)) (reports o days)
  never_falls d days = none_above (reported_max_eul o (d ∷ days)) days (omega (arith, reported_more o d days))

cents : (e Max T : ℕ) → 0 < T
    → Nearest (value e Max T) (100 * e * Max) T × Nearest (reserve e Max T) (110 * e * Max) T × Nearest (estimate e Max T) (220 * e * Max) T
unfolding value reserve estimate
cents e Max T positive =
    let once : (f : ℕ) → Nearest (round_div (f * e * Max) T) (f * e * Max) T =
    λ f. (round_below (f * e * Max) T positive, round_above (f * e * Max) T positive) in
    (once 100, once 110, once 220)

-- ---- a caller's notes

-- they are what the days that the register keeps report
accepted_noted : (g : Register) (a : Asked)
    → let after = accept g (call_of a) in
    note_accepted a (returned after (call_of a)) (reports g.held g.days) ≡ reports after.held after.days
unfolding accept returned
accepted_noted g (Asked.opening o) = refl
accepted_noted g (Asked.day d out) = refl
accepted_noted g (Asked.closing out) = refl

noted_are : (cs ds : List Made) → Holds start (cs ++ ds) → noted cs ≡ reports (register_after start cs).held (register_after start cs).days
noted_are = from_answers_lem note_accepted (λ g. reports g.held g.days) accepted_noted start

-- ---- the last call of a list of which demand 3 holds

call_fits : (cs : List Made) (call : Call) → refusal (register_after start cs) call ≡ clear → AcceptedFits (step (register_after start cs) call) call
call_fits cs call =
    subst (λ (g : Register). refusal g call ≡ clear → AcceptedFits (step g call) call) (fold-map step (λ c. call_of c.asked) start cs)
    (as_printed.accepted_fits (map (λ c. call_of c.asked) cs) call)

pub of_day : (cs : List Made) (c : Made) (d : DayInput) (out : List ℕ) (T Max : ℕ) → Holds start (cs ++ (c ∷ []))
    → c.asked ≡ Asked.day d out → c.answer ≡ accepted (T ∷ Max ∷ [])
    → DayReports (register_after start cs) (noted cs) d T Max c.after
unfolding answer buffer accept returned written dailies greatest
of_day cs c d out T Max holds is said =
    let g = register_after start cs in
    let o = g.held in
    let call = Call.day d (length out) in
    let accts = accounts o.k d in
    let kept : KeptDay = record { number = d.terms.number; accounts = accts } in
    let agreed = last_agrees start cs c holds in
    let answered : answer g call ≡ accepted (T ∷ Max ∷ []) = rw is at (sym agreed.answer ∙ said) in
    let (passes, same) = is_clear (refusal g call) _ _ answered in
    let left = step_clear g call passes in
    let told : total o accts ∷ reported_max_eul o (kept ∷ g.days) ∷ [] ≡ T ∷ Max ∷ [] = ap (λ (x : Register). returned x call) (sym left) ∙ same in
    let wrote : c.after ≡ written (step g call) call = agreed.buffer ∙ rw (is, passes) in
    let reported : Max ≡ reported_max_eul o (kept ∷ g.days) = sym (ap (λ (l : List ℕ). get_or l 1 0) told) in
    let notes : noted cs ≡ reports o g.days = noted_are cs (c ∷ []) holds in
    let M = m_is_the_same_lem o g.days in
    let so_far : Max ≡ max (own_max_eul o accts) (get_or (noted cs) 0 0) = rw notes (reported ∙ omega (arith, reported_more o kept g.days, M.last_reported)) in
    let fit = call_fits cs call passes in
    record {
      max_is = reported ∙ omega (arith, reported_more o kept g.days, M.highest_own);
      so_far = so_far;
      first_is_own = λ none. let last : get_or (noted cs) 0 0 ≡ 0 = rw none refl in omega (arith, so_far);
      at_least_own = rw reported (at_least_own o kept g.days);
      never_falls = rw (reported, notes) (never_falls o kept g.days);
      t_is = sym (ap (λ (l : List ℕ). get_or l 0 0) told);
      writes =
          wrote ∙ ap (λ (x : Register). written x call) left
          ∙ ap (λ (l : List ℕ). flat_map (λ m. five (loss o.k accts m) (get_or l 1 0) (get_or l 0 0)) (members o.n)) told;
      fits =
          let (T-fits, (Max-fits, _)) = subst (AllByRecursion Fits64) same fit.returned_fits in
          (T-fits, (Max-fits, rw wrote fit.written_fits));
    }

of_closing : (cs : List Made) (c : Made) (out : List ℕ) (D M funds : ℕ) → Holds start (cs ++ (c ∷ []))
    → c.asked ≡ Asked.closing out → c.answer ≡ accepted (D ∷ M ∷ funds ∷ [])
    → MIsTheSame (owns (register_after start cs).held (register_after start cs).days) (noted cs) M
unfolding answer accept returned
of_closing cs c out D M funds holds is said =
    let g = register_after start cs in
    let call = Call.closing (length out) in
    let answered : answer g call ≡ accepted (D ∷ M ∷ funds ∷ []) = rw is at (sym (last_agrees start cs c holds).answer ∙ said) in
    let (passes, same) = is_clear (refusal g call) _ _ answered in
    let kept = ap (λ (x : Register). highest x.held x.days) (step_clear g call passes) in
    let m_is : highest g.held g.days ≡ M = sym kept ∙ ap (λ (l : List ℕ). get_or l 1 0) same in
    let notes = sym (noted_are cs (c ∷ []) holds) in
    subst (MIsTheSame (owns g.held g.days) (noted cs)) m_is
    (subst (λ (notes : List ℕ). MIsTheSame (owns g.held g.days) notes (highest g.held g.days)) notes (m_is_the_same_lem g.held g.days))

-- ---- an accepted opening

begins_anew : (cs : List Made) (a : Made) (rest : List Made) (o : Opening) → Holds start (cs ++ (a ∷ rest))
    → a.asked ≡ Asked.opening o → refusal (register_after start cs) (Call.opening o) ≡ clear
    → Holds (opened_by o) rest × (noted (cs ++ (a ∷ rest)) ≡ noted rest)
unfolding answer returned
begins_anew cs a rest o holds is passes =
    let g = register_after start cs in
    let (agreed, _, after) = holds_from start cs (a ∷ rest) holds in
    let left : step g (call_of a.asked) ≡ opened_by o = rw is (opened_anew g o passes) in
    let said : a.answer ≡ accepted [] = agreed.answer ∙ rw (is, passes) in
    (subst (λ (g : Register). Holds g rest) left after, fold-append _ [] cs (a ∷ rest) ∙ rw (said, is))

-- ---- the claim

pub highest_so_far : HighestSoFar
highest_so_far =
    record {
      m_is_the_same = m_is_the_same_lem;
      first_is_own = first_is_own;
      at_least_own = at_least_own;
      never_falls = never_falls;
      cents = cents;
      day_reports = λ cs c d out T Max made. of_day cs c d out T Max (demand_3.every_list (cs ++ (c ∷ [])) made);
      closing_returns = λ cs c out D M funds made. of_closing cs c out D M funds (demand_3.every_list (cs ++ (c ∷ [])) made);
      begins_anew = λ cs a rest o made. begins_anew cs a rest o (demand_3.every_list (cs ++ (a ∷ rest)) made);
      compiled_day =
          λ 𝓛 mem run cs c d out T Max from.
          of_day (map made_of cs) (made_of c) d out T Max (compiled_holds 𝓛 mem run cs (c ∷ []) from);
      compiled_closing =
          λ 𝓛 mem run cs c out D M funds from.
          of_closing (map made_of cs) (made_of c) out D M funds (compiled_holds 𝓛 mem run cs (c ∷ []) from);
      compiled_anew =
          λ 𝓛 mem run cs a rest o from is passes.
          let (after, notes) = begins_anew (map made_of cs) (made_of a) (map made_of rest) o (compiled_holds 𝓛 mem run cs (a ∷ rest) from) is passes in
          (after, ap noted (map-append made_of cs (a ∷ rest)) ∙ notes);
    }
