-- Openings by their first and last days: row 10 is met by the first member whose days are bad, and by nothing else that rows 2 and 1 let pass. So
-- says the table, and the report of a text.
use mathlib.Core.Path.{◌≡◌, refl, sym, ap, subst, ◌∙◌}
use mathlib.Core.Bool.{Bool, true, false, true≢false}
use mathlib.Core.List.{List, ◌++◌}
use Prim.Native.Nat.{ℕ, ◌+◌, ◌-◌, ◌^◌, ◌≤◌, ◌<◌}
use native.Mathlib.Omega.{arith}
use lib.Dec.{ltb, leb}
use lib.ListN.{length, get_or}
use borrow.Author.Tests.{ltb-true, lt-ltb, le-leb, leb-true, eq-eqb}
use Rattle.std.specs.Prelude.{Option, Some, None, Ok, Err}
use Rattle.std.specs.List.{list_any, position_or_len}
use Rattle.std.proofs.lemmas.Bool.Decides.{nat_tests}
use Rattle.std.proofs.lemmas.List.FromFn.{length-range_with_len, get_or-range_with_len}
use Rattle.std.proofs.lemmas.List.Sums.{position_or_len_is}
use Rattle.numbers.proofs.Tests.{both}
use Rattle.methodology.specs.declared.Opening.{Opening}
use Rattle.methodology.specs.declared.Status.{Status}
use Rattle.methodology.specs.declared.Refusal.{Refusal}
use Rattle.methodology.specs.declared.Refusal.TheVariants.{OutOfTurn, BadOpening, BadPresence}
use Rattle.methodology.specs.Account.{members, first_day, last_day, present}
use Rattle.methodology.specs.RowNumbers.{row_number, row_index}
use Rattle.methodology.specs.Refusals.{Verdict, clear, row◌when◌else◌, is_open, n_outside, k_outside, group_outside, bad_opening, bad_presence, opening_rows, opening_refusal}
use Rattle.methodology.specs.Register.{Call, Register, start, refusal}
use Rattle.methodology.specs.Text.{refused_line, opened, followed_by, report_of}
use Rattle.validation.proofs.OpeningPasses.{found_passes, below_fails, in_limits}
use Rattle.not_begun.specs.NotBegun.{opening_lines}
use Rattle.not_begun.proofs.MonthText.{Written, to_the_opening}
use Rattle.presence.specs.Presence.{GoodPresence, FirstBad}

module _ (o : Opening) where
  abbrev pub bad : (m : ℕ) → Bool
  bad m = bad_presence (first_day o m) (last_day o m)

  -- ---- who is present

  pub present_within : (number m : ℕ) → present o number m ≡ true → (first_day o m ≤ number) × (number ≤ last_day o m)
  unfolding present
  present_within number m e = let (a, b) = both (leb (first_day o m) number) (leb number (last_day o m)) e in (leb-true _ _ a, leb-true _ _ b)

  pub present_if : (number m : ℕ) → first_day o m ≤ number → number ≤ last_day o m → present o number m ≡ true
  unfolding present
  present_if number m a b = rw (le-leb _ _ a, le-leb _ _ b) refl

  -- ---- good days, as the test of row 10 has them

  good_if : (m : ℕ) → bad m ≡ false → GoodPresence o m
  good_if m e = record { first_some = grind (arith, nat_tests); in_order = grind (arith, nat_tests); last_few = grind (arith, nat_tests) }

  good_then : (m : ℕ) → GoodPresence o m → bad m ≡ false
  good_then m d =
      let a = d.first_some in
      let b = d.in_order in
      let c = d.last_few in
      grind (arith, nat_tests)

  bad_if : (m : ℕ) → (GoodPresence o m → ⊥) → bad m ≡ true
  bad_if m h = by (bad m) refl
    where
      by : (t : Bool) → bad m ≡ t → t ≡ true
      by true e = refl
      by false e = absurd (h (good_if m e))

  bad_then : (m : ℕ) → bad m ≡ true → GoodPresence o m → ⊥
  bad_then m e d = true≢false (sym e ∙ good_then m d)

  -- ---- the search for the first bad one

  abbrev pub bad10 : ℕ
  bad10 = position_or_len bad (members o.n)

  found : bad10 < o.n → FirstBad o (bad10 + 1)
  found inside =
      record {
        least = omega arith;
        most = omega (arith, inside);
        bad = bad_then (bad10 + 1) (found_passes bad o.n inside);
        good_before = λ l low below. good_if l (below_fails bad o.n l low (omega (arith, below, inside)) (omega (arith, below)));
      }

  -- where all are good none is found
  pub none_found : ((m : ℕ) → 1 ≤ m → m ≤ o.n → GoodPresence o m) → ltb bad10 o.n ≡ false
  none_found all = by (ltb bad10 o.n) refl
    where
      by : (t : Bool) → ltb bad10 o.n ≡ t → t ≡ false
      by true e =
          let f = found (ltb-true bad10 o.n e) in
          absurd (f.bad (all (bad10 + 1) f.least f.most))
      by false e = refl

  numbered : (i : ℕ) → i < o.n → get_or (members o.n) i 0 ≡ i + 1
  numbered i h = get_or-range_with_len 1 o.n i 0 h ∙ omega arith

  first_is : (m : ℕ) → FirstBad o m → bad10 ≡ m - 1
  first_is m f =
      let low = f.least in
      let high = f.most in
      let long = length-range_with_len 1 o.n in
      position_or_len_is bad (members o.n) (m - 1) 0 (omega (arith, high, long))
      (λ j below.
      let good = f.good_before (j + 1) (omega arith) (omega (arith, below, low)) in
      subst (λ (l : ℕ). bad l ≡ false) (sym (numbered j (omega (arith, below, low, high)))) (good_then (j + 1) good))
      (λ h. subst (λ (l : ℕ). bad l ≡ true) (sym (numbered (m - 1) (omega (arith, low, high)) ∙ omega (arith, low))) (bad_if m f.bad))

  -- ---- rows 1 and 10

  pub lists_long : bad_opening o ≡ false → (length o.firsts ≡ o.n) × (length o.lasts ≡ o.n)
  lists_long e = let l = in_limits o e in (l.firsts_long, l.lasts_long)

  pub row_1_passes : n_outside o.n ≡ false → k_outside o.k ≡ false → list_any group_outside o.groups ≡ false
      → length o.groups ≡ o.n → length o.firsts ≡ o.n → length o.lasts ≡ o.n → bad_opening o ≡ false
  unfolding bad_opening
  row_1_passes n k groups groups_long firsts_long lasts_long =
      rw (n, k, groups, eq-eqb _ _ groups_long, eq-eqb _ _ firsts_long, eq-eqb _ _ lasts_long) refl

  module _ (g : Register) (closed : is_open g.status ≡ false) (good : bad_opening o ≡ false) where
    pub refused_by_10 : (m : ℕ) → FirstBad o m → refusal g (Call.opening o) ≡ Err (BadPresence m)
    unfolding refusal opening_refusal opening_rows row◌when◌else◌
    refused_by_10 m f =
        let back : m - 1 + 1 ≡ m = let low = f.least in omega (arith, low) in
        rw (closed, good, first_is m f, lt-ltb (m - 1) o.n (let low = f.least in let high = f.most in omega (arith, low, high)), back) refl

    pub opens : ((m : ℕ) → 1 ≤ m → m ≤ o.n → GoodPresence o m) → refusal g (Call.opening o) ≡ clear
    unfolding refusal opening_refusal opening_rows row◌when◌else◌
    opens all = rw (closed, good, none_found all) refl

-- ---- an opening that is refused by 10

-- the number and the index of a verdict's row
abbrev number_told : Verdict → ℕ
number_told (Ok _) = 0
number_told (Err met) = row_number met

abbrev index_told : Verdict → Option ℕ
index_told (Ok _) = None
index_told (Err met) = row_index met

-- it is not refused by 2 or 1, and the first bad member is named
pub named : (s : Status) (o : Opening) (m : ℕ) (met : Refusal) → opening_refusal s o ≡ Err met → row_number met ≡ 10 → row_index met ≡ Some m
    → (is_open s ≡ false) × (bad_opening o ≡ false) × FirstBad o m
unfolding opening_refusal opening_rows row◌when◌else◌
named s o m met e n i = by (is_open s) (bad_opening o) (ltb (bad10 o) o.n) refl refl refl e
  where
    numbered_10 : {v : Verdict} → v ≡ Err met → number_told v ≡ 10
    numbered_10 q = ap number_told q ∙ n

    by : (a b t : Bool) → is_open s ≡ a → bad_opening o ≡ b → ltb (bad10 o) o.n ≡ t
        → row OutOfTurn when a else row BadOpening when b else row (BadPresence (bad10 o + 1)) when t else clear ≡ Err met
        → (is_open s ≡ false) × (bad_opening o ≡ false) × FirstBad o m
    by true b t q r u f = absurd (let no_way : ⊥ = omega (arith, numbered_10 f) in no_way)
    by false true t q r u f = absurd (let no_way : ⊥ = omega (arith, numbered_10 f) in no_way)
    by false false true q r u f =
        (q, r, subst (FirstBad o) (let z : Some (bad10 o + 1) ≡ Some m = ap index_told f ∙ i in cc) (found o (ltb-true (bad10 o) o.n u)))
    by false false false q r u f = absurd (let no_way : ⊥ = omega (arith, numbered_10 f) in no_way)

-- ---- the report of its text

module _ (o : Opening) (good : bad_opening o ≡ false) (short : (i : ℕ) → i < o.n → (get_or o.firsts i 0 < 10 ^ 13) × (get_or o.lasts i 0 < 10 ^ 13)) where
  written : Written o
  written = record { in_limits = in_limits o good; first_short = λ i h. (short i h).0; last_short = λ i h. (short i h).1 }

  pub reported_by_10 : (m : ℕ) (rest : List ℕ) → FirstBad o m → report_of (opening_lines o ++ rest) ≡ refused_line (BadPresence m) (1 + m)
  unfolding opened followed_by
  reported_by_10 m rest f = to_the_opening o written rest ∙ rw (refused_by_10 o start refl good m f) refl
