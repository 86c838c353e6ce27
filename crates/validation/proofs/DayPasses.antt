-- What rows 4 to 6 leave of a day, in facts instead of tests.
-- Each row's tests are taken apart at each index; the NPV at x stands in the row of account x / (k + 1).
use mathlib.Core.Path.{◌≡◌, sym, ◌∙◌}
use mathlib.Core.Bool.{false, not, ◌||◌}
use mathlib.Core.List.{◌∷◌}
use Prim.Native.Nat.{ℕ, suc, ◌+◌, ◌*◌, ◌/◌, ◌%◌, ◌≤◌, ◌<◌}
use native.Mathlib.Nat.{mul-le-mul_right, div-add-mod', div-lt_iff_lt-mul, mod-lt}
use native.Mathlib.Omega.{arith}
use lib.Dec.{ltb}
use lib.IntN.{pos, nat_abs}
use lib.ListN.{length, get_or, take, drop}
use Rattle.std.specs.List.{list_any, position_or_len}
use Rattle.std.proofs.lemmas.Bool.Decides.{nat_tests}
use Rattle.std.proofs.lemmas.List.Sums.{fails_before_first, prefix_len-le-length}
use Rattle.numbers.proofs.Lists.{part_at, part_length, mem_at, any_false}
use Rattle.methodology.specs.declared.Refusal.TheVariants.{BadDayNumber, BadLengths, BadHeading, BadAmount}
use Rattle.methodology.specs.declared.Opening.{Opening}
use Rattle.methodology.specs.Account.{DayInput, nobody, accounts}
use Rattle.methodology.specs.Refusals.{clear, bad_input, bad_day_number, first_bad_heading, last_missing, bad_amount}
use Rattle.methodology.specs.Refusals.{limit, npv_outside, account_rows, day_rows}
use Rattle.methodology.proofs.Passed.{passed}
use Rattle.methodology.proofs.RowLimits.{bad_heading_le, accounts_long}
use Rattle.validation.specs.Slices.{no_account}
use Rattle.validation.specs.Passing.{Sized, Passes, Passed}
use Rattle.validation.proofs.Headings.{Fine, all_fine}
use Rattle.validation.proofs.Amounts.{npv_limit, bad_amount_at}

-- row 4 of what the day brings
pub sized : (o : Opening) (d : DayInput) → bad_input o d ≡ false → Sized o d
sized o d e =
    record {
      some = grind (arith, nat_tests);
      few = grind (arith, nat_tests);
      npvs_long = grind (arith, nat_tests);
      margins_long = grind (arith, nat_tests);
      extras_long = grind (arith, nat_tests);
    }

module _ (o : Opening) (d : DayInput) where
  -- row 5 at each heading
  module _ (e5 : first_bad_heading o d.terms.number nobody d.headings ≡ length d.headings) where
    fine_at : (i : ℕ) → i < length d.headings → Fine o d.terms.number (get_or (nobody ∷ d.headings) i nobody) (get_or d.headings i nobody)
    fine_at = all_fine o d.terms.number d.headings e5

  -- row 6 at each account
  module _ (e6 : position_or_len bad_amount (accounts o.k d) ≡ length d.headings) where
    parts : (i : ℕ) → i < length d.headings
        → (list_any npv_outside (take (o.k + 1) (drop (i * (o.k + 1)) d.npvs)) ≡ false)
        × (get_or d.margins i 0 ≤ limit)
        × (get_or d.extras i 0 ≤ get_or d.margins i 0)
    parts i l =
        let good = sym (bad_amount_at o.k d i l) ∙ fails_before_first bad_amount (accounts o.k d) i no_account (omega arith) in
        (grind (arith, nat_tests), grind (arith, nat_tests), grind (arith, nat_tests))

    npv_in : length d.npvs ≡ length d.headings * (o.k + 1) → (x : ℕ) → x < length d.npvs → nat_abs (get_or d.npvs x (pos 0)) ≤ limit
    npv_in long x l =
        let w = o.k + 1 in
        let i = x / w in
        let j = x % w in
        let positive : 0 < w = omega arith in
        let i-in : i < length d.headings = (div-lt_iff_lt-mul positive).1 (omega arith) in
        let j-in : j < w = mod-lt x positive in
        let row-end : i * w + w ≤ length d.npvs = omega (arith, mul-le-mul_right w i-in) in
        let row = take w (drop (i * w) d.npvs) in
        let inside : j < length row = omega (arith, part_length (i * w) w d.npvs row-end) in
        let z = npv_limit (get_or row j (pos 0)) (any_false npv_outside (parts i i-in).0 (mem_at row (pos 0) inside)) in
        rw (part_at (i * w) w d.npvs j (pos 0) j-in, div-add-mod' x w) at z

  -- rows 4 to 6 together
  pub rows_leave : bad_input o d ≡ false → first_bad_heading o d.terms.number nobody d.headings ≡ length d.headings
      → position_or_len bad_amount (accounts o.k d) ≡ length d.headings → Passed o d
  rows_leave e4 e5 e6 =
      let size = sized o d e4 in
      record {
        within =
            record {
              few = size.few;
              npvs_long = size.npvs_long;
              margins_long = size.margins_long;
              extras_long = size.extras_long;
              kind = λ i l. (fine_at e5 i l).kind;
              npv = npv_in e6 size.npvs_long;
              margin = λ i l. (parts e6 i l).1;
              extra = λ i l. (parts e6 i l).2;
            };
        rising = record { least = λ i l. (fine_at e5 i l).least; next = λ i l. (fine_at e5 (suc i) l).rising };
        most = λ i l. (fine_at e5 i l).most;
      }

-- a day that rows 4, 3, 5 and 6 let pass meets none of their conditions
pub passes : (o : Opening) (last : ℕ) (d : DayInput) → day_rows o last d ≡ clear → Passes o last d
unfolding day_rows account_rows
passes o last d e =
    let hs = d.headings in
    let bad5 = first_bad_heading o d.terms.number nobody hs in
    let bad6 = position_or_len bad_amount (accounts o.k d) in
    let (e4, r₁) = passed BadLengths (bad_input o d) _ e in
    let (e3, r₂) = passed BadDayNumber (bad_day_number last d.terms.number) _ r₁ in
    let (e5, r₃) = passed (BadHeading bad5) (ltb bad5 (length hs) || last_missing o d.terms.number hs) _ r₂ in
    let (e6, _) = passed (BadAmount bad6) (ltb bad6 (length hs)) clear r₃ in
    record {
      input = e4;
      number = e3;
      headings = grind (arith, nat_tests, bad_heading_le o d.terms.number nobody hs);
      complete = grind (arith, nat_tests);
      amounts = grind (arith, nat_tests, prefix_len-le-length (λ a. not (bad_amount a)) (accounts o.k d), accounts_long o.k d);
    }
