-- A month that has not begun: every figure of a closing without days, by computation; that such a closing is accepted; and so for every list
-- of calls, by demand 3, and every text of period, members and end; and that D counts the days answered as accepted, as the register does.
-- With it the claim is whole: `not_begun`.
use mathlib.Core.Path.{◌≡◌, refl, sym, ap, subst, ◌∙◌}
use mathlib.Core.List.{List, [], ◌∷◌, ◌++◌, map, flat_map, append_assoc, append-nil}
use Prim.Native.Nat.{ℕ, ◌+◌, ◌*◌, ◌<◌}
use native.Mathlib.Omega.{arith}
use lib.ListN.{length, take}
use Rattle.std.proofs.lemmas.List.Sums.{fold_push}
use Rattle.std.proofs.lemmas.List.FromFn.{length-range_with_len}
use Rattle.numbers.proofs.Lists.{◌∈◌, mem_range, map_eq}
use Rattle.numbers.proofs.Rows.{flat_map_map}
use Rattle.numbers.proofs.Sums.{Σ-const}
use Rattle.methodology.specs.declared.Status.TheVariants.{Open}
use Rattle.methodology.specs.declared.Refusal.TheVariants.{BadLine}
use Rattle.methodology.specs.declared.Opening.{Opening}
use Rattle.methodology.specs.Account.{members}
use Rattle.methodology.specs.Contribution.{counted, charge, raw, funded, unfunded, three, contributions, total_funded}
use Rattle.methodology.specs.Refusals.{clear, opening_rows}
use Rattle.methodology.specs.Register.{Call, Register, start, refusal, accept, step, returned, written, accepted, answer, buffer}
use Rattle.methodology.specs.Text.{bytes, printed, stretch, rows, refused_line, fund_lines, closed, report_of}
use Rattle.methodology.proofs.Passed.{step_clear, opened_anew}
use Rattle.methodology.proofs.Counted.{counted_nil, number_counted}
use Rattle.methodology.proofs.Splits.{nothing_after, something_after}
use Rattle.methodology.proofs.Reports.{closing_clear}
use Rattle.fund.proofs.RawCharge.{highest_none, raw_none, exact_none}
use Rattle.period.specs.Registered.{period_of}
use Rattle.period.specs.Calls.{fresh_period}
use Rattle.demand3.specs.Made.{Asked, Made, call_of, MadeOn}
use Rattle.demand3.specs.Demand3.{Holds, register_after}
use Rattle.demand3.proofs.EveryList.{last_agrees, from_answers_lem}
use Rattle.demand3.proofs.Demand3.{made_of}
use Rattle.demand3.proofs.Demand3Proved.{demand_3, compiled_holds}
use Rattle.answers.proofs.RefusalRows.{is_clear}
use Rattle.as_printed.proofs.DaySums.{stretch_is}
use Rattle.not_begun.specs.NotBegun.{NoAcceptedDay, AsNotBegun, closed_from, ClosedAt, after_accepted, days_answered, text_of, fund_of, NotBegun}
use Rattle.not_begun.proofs.MonthText.{opening_clear, to_the_end}

-- ---- the figures

writes_none : (o : Opening) → contributions o [] ≡ flat_map (λ m. 0 ∷ 50000000 ∷ 100000000 ∷ []) (members o.n)
unfolding contributions three raw charge counted funded unfunded
writes_none o = refl

total_none : (o : Opening) → total_funded o [] ≡ o.n * 50000000
unfolding total_funded raw charge counted funded
total_none o = Σ-const (members o.n) 50000000 ∙ ap (λ (n : ℕ). n * 50000000) (length-range_with_len 1 o.n)

-- ---- the register

module _ (g : Register) (room : ℕ) (none : NoAcceptedDay g) (long : room ≡ 3 * g.held.n) where
  abbrev call : Call
  call = Call.closing room

  accepted_then : refusal g call ≡ clear
  accepted_then = rw long (closing_clear g none.opened)

  leaves : step g call ≡ closed_from g
  unfolding accept
  leaves = step_clear g call accepted_then ∙ rw none.none

  says : answer g call ≡ accepted (0 ∷ 0 ∷ g.held.n * 50000000 ∷ [])
  unfolding answer returned
  says = rw (accepted_then, leaves, counted_nil g.held, highest_none g.held [] (counted_nil g.held), total_none g.held)

  writes : (before : List ℕ) → buffer g call before ≡ flat_map (λ m. 0 ∷ 50000000 ∷ 100000000 ∷ []) (members g.held.n)
  unfolding buffer written
  writes before = rw (accepted_then, leaves) (writes_none g.held)

  closes : (before : List ℕ) → AsNotBegun g.held.n (answer g call) (buffer g call before) × (step g call ≡ closed_from g)
  closes before = (record { says = says; writes = writes before }, leaves)

-- ---- lists of calls

-- a list of calls of which demand 3 holds
of_list : (cs : List Made) (c : Made) (out : List ℕ) → Holds start (cs ++ (c ∷ [])) → c.asked ≡ Asked.closing out
    → NoAcceptedDay (register_after start cs) → length out ≡ 3 * (register_after start cs).held.n → ClosedAt (register_after start cs) c
of_list cs c out holds is none long =
    let g = register_after start cs in
    let agreed = last_agrees start cs c holds in
    let (so, leaves) = closes g (length out) none long out in
    record {
      as_not_begun = record { says = agreed.answer ∙ rw is so.says; writes = agreed.buffer ∙ rw is so.writes };
      leaves = agreed.period ∙ rw is (ap period_of leaves);
    }

at_once : (cs : List Made) (a c : Made) (o : Opening) (out : List ℕ) → MadeOn fresh_period (cs ++ (a ∷ c ∷ []))
    → a.asked ≡ Asked.opening o → refusal (register_after start cs) (Call.opening o) ≡ clear
    → c.asked ≡ Asked.closing out → length out ≡ 3 * o.n
    → AsNotBegun o.n c.answer c.after
at_once cs a c o out made is e is' long =
    let g = register_after start (cs ++ (a ∷ [])) in
    let left : g ≡ record { status = Open; held = o; days = [] } = fold_push _ start cs a ∙ rw is (opened_anew (register_after start cs) o e) in
    let made' = subst (MadeOn fresh_period) (sym (append_assoc cs (a ∷ []) (c ∷ []))) made in
    let none : NoAcceptedDay g = record { opened = rw left refl; none = rw left refl } in
    let so = (of_list (cs ++ (a ∷ [])) c out (demand_3.every_list (cs ++ (a ∷ []) ++ (c ∷ [])) made') is' none (long ∙ rw left refl)).as_not_begun in
    subst (λ (g : Register). AsNotBegun g.held.n c.answer c.after) left so

-- ---- D

-- as many days count as were answered with a T above 0
number_is : (g : Register) (a : Asked)
    → let after = accept g (call_of a) in
    after_accepted a (returned after (call_of a)) (length (counted g.held g.days)) ≡ length (counted after.held after.days)
unfolding accept returned
number_is g (Asked.opening o) = rw (counted_nil o) refl
number_is g (Asked.day d out) = sym (number_counted g.held _ g.days)
number_is g (Asked.closing out) = refl

d_shows : (cs : List Made) (c : Made) (out figures : List ℕ) → Holds start (cs ++ (c ∷ [])) → c.asked ≡ Asked.closing out
    → c.answer ≡ accepted figures → take 1 figures ≡ days_answered cs ∷ []
unfolding answer returned accept counted
d_shows cs c out figures holds is said =
    let g = register_after start cs in
    let k = Call.closing (length out) in
    let answered : answer g k ≡ accepted figures = rw is at (sym (last_agrees start cs c holds).answer ∙ said) in
    let (passes, same) = is_clear (refusal g k) _ figures answered in
    let kept = ap (λ (x : Register). length (counted x.held x.days) ∷ []) (step_clear g k passes) in
    ap (take 1) (sym same) ∙ kept
    ∙ ap (λ (D : ℕ). D ∷ []) (sym (from_answers_lem after_accepted (λ g. length (counted g.held g.days)) number_is start cs (c ∷ []) holds))

-- ---- texts

module _ (n : ℕ) where
  abbrev each : (m : ℕ) → List ℕ
  each m = 0 ∷ 50000000 ∷ 100000000 ∷ []

  own : (m : ℕ) → m ∈ members n → stretch 3 m (flat_map each (members n)) ≡ each m
  own m i = let (low, high) = mem_range 1 n i in stretch_is 3 each (λ m. refl) n m low (omega arith)

  fund_is : fund_lines n (0 ∷ 0 ∷ n * 50000000 ∷ []) (flat_map each (members n)) ≡ fund_of n
  unfolding fund_lines rows
  fund_is =
      let word = bytes "contribution" in
      let line : ℕ → List ℕ = λ m. m ∷ stretch 3 m (flat_map each (members n)) in
      ap (λ (l : List ℕ). printed (bytes "fund") (0 ∷ 0 ∷ n * 50000000 ∷ []) ++ l)
      (sym (flat_map_map line (members n) (printed word))
      ∙ ap (flat_map (printed word)) (map_eq line (λ m. m ∷ each m) (members n) (λ m i. ap (λ (l : List ℕ). m ∷ l) (own m i)))
      ∙ flat_map_map (λ m. m ∷ each m) (members n) (printed word))

report : (o : Opening) → opening_rows o ≡ clear → report_of (text_of o) ≡ fund_of o.n
unfolding closed returned written
report o good =
    let g = step start (Call.opening o) in
    let is : g ≡ record { status = Open; held = o; days = [] } = opened_anew start o (opening_clear o good) in
    let none : NoAcceptedDay g = record { opened = rw is refl; none = rw is refl } in
    let room = 3 * g.held.n in
    let no_day = counted_nil g.held in
    ap report_of (sym (append-nil (text_of o)))
    ∙ to_the_end o good []
    ∙ nothing_after g (o.n + 2) (o.n + 3)
    ∙ rw (closing_clear g none.opened, leaves g room none refl, no_day, highest_none g.held [] no_day, total_none g.held, writes_none g.held)
    (fund_is g.held.n ∙ rw is refl)

report_after : (o : Opening) (rest : List ℕ) → opening_rows o ≡ clear → 0 < length rest → report_of (text_of o ++ rest) ≡ refused_line BadLine (o.n + 3)
report_after o rest good some = to_the_end o good rest ∙ something_after (step start (Call.opening o)) (o.n + 2) (o.n + 3) rest some

pub not_begun : NotBegun
not_begun =
    record {
      m_is = λ o. highest_none o [] (counted_nil o);
      raw_is = λ o. raw_none o [] (counted_nil o);
      exact_is = λ o. exact_none o [] (counted_nil o);
      closes = λ g before none long. closes g (length before) none long before;
      every_list = λ cs c out made. of_list cs c out (demand_3.every_list (cs ++ (c ∷ [])) made);
      at_once = at_once;
      compiled_list =
          λ 𝓛 mem run cs c out from.
          of_list (map made_of cs) (made_of c) out (compiled_holds 𝓛 mem run cs (c ∷ []) from);
      d_shows = λ cs c out figures made. d_shows cs c out figures (demand_3.every_list (cs ++ (c ∷ [])) made);
      report = report;
      report_after = report_after;
    }
