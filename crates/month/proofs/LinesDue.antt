-- The period line, a day line and the end line at the front of a text: what reading it comes to, by what the code has found of it.
use mathlib.Core.Path.{◌≡◌, refl, ap, ◌∙◌}
use mathlib.Core.Bool.{Bool, true, false, true≢false, ◌||◌}
use mathlib.Core.List.{List, [], ◌∷◌, ◌++◌}
use Rattle.std.specs.Prelude.{None, Some}
use Prim.Native.Nat.{ℕ, ◌+◌, ◌*◌}
use native.Mathlib.Omega.{arith}
use native.Mathlib.Numerals.{add-one}
use lib.Dec.{eqb}
use lib.ListN.{length, get_or, take}
use borrow.Author.Tests.{lt-ltb, ltb-true, eqb-true}
use Rattle.std.specs.Cmp.Lexicographic.{pointwise}
use Rattle.std.proofs.lemmas.Bool.Decides.{Decides-eqb}
use Rattle.std.proofs.lemmas.List.Sums.{passes_at_first, split_at_first}
use Rattle.std.proofs.lemmas.Slice.Eq.{strip_prefix_is}
use Rattle.numbers.proofs.Tests.{both}
use Rattle.methodology.specs.declared.Refusal.TheVariants.{BadOpening, BadLengths, BadLine}
use Rattle.methodology.specs.Register.{Call, Register, refusal}
use Rattle.methodology.specs.Refusals.{n_outside, k_outside, count_outside}
use Rattle.methodology.specs.Text.{LF, bytes, same, split, numbers_after, refused_line, after_end, read_period, read_day, closed, followed_by, report_from, report_of}
use Rattle.methodology.specs.Lines.{index_of, has, before, after, is_end, line_read}
use Rattle.methodology.proofs.Splits.{same_eq, period_line_lem, end_line_lem, day_line, nothing_after, something_after}
use Rattle.accounts.specs.AcctLines.{accounts_due}
use Rattle.day.specs.Turns.{days_due}
use Rattle.month.specs.MemberLines.{members_due}

-- ---- the period line

module _ (text : List ℕ) where
  pub period_bad : line_read (numbers_after (bytes "period") 2) text ≡ None → report_of text ≡ refused_line BadLine 1
  unfolding report_of read_period followed_by
  period_bad e = period_line_lem 1 text ∙ rw e

  module _ (ns : List ℕ) (read : line_read (numbers_after (bytes "period") 2) text ≡ Some ns) where
    pub period_outside : (n_outside (get_or ns 0 0) || k_outside (get_or ns 1 0)) ≡ true → report_of text ≡ refused_line BadOpening 1
    unfolding report_of read_period followed_by
    period_outside h = period_line_lem 1 text ∙ rw (read, h)

    pub period_good : (n_outside (get_or ns 0 0) || k_outside (get_or ns 1 0)) ≡ false
        → report_of text ≡ members_due (after LF text) (get_or ns 0 0) (get_or ns 1 0)
    unfolding report_of read_period followed_by
    period_good h = period_line_lem 1 text ∙ rw (read, h)

-- ---- a day line

module _ (g : Register) (line : ℕ) (text : List ℕ) (no_end : is_end text ≡ false) where
  pub day_bad : line_read (numbers_after (bytes "day") 2) text ≡ None → days_due text line g ≡ refused_line BadLine line
  unfolding read_day followed_by
  day_bad e = day_line g line text no_end ∙ rw e

  module _ (ns : List ℕ) (read : line_read (numbers_after (bytes "day") 2) text ≡ Some ns) where
    pub day_outside : count_outside (get_or ns 1 0) ≡ true → days_due text line g ≡ refused_line BadLengths line
    unfolding read_day followed_by
    day_outside h = day_line g line text no_end ∙ rw (read, h)

    pub day_good : count_outside (get_or ns 1 0) ≡ false
        → days_due text line g ≡ accounts_due (after LF text) g (record { number = get_or ns 0 0 }) line (get_or ns 1 0)
    unfolding read_day followed_by
    day_good h = day_line g line text no_end ∙ rw (read, h)

-- ---- the end line

abbrev pub end_bytes : List ℕ
end_bytes = 101 ∷ 110 ∷ 100 ∷ 10 ∷ []

pub end_due : (g : Register) (line : ℕ) (text rest : List ℕ) → text ≡ end_bytes ++ rest
    → days_due text line g ≡ report_from (line + 1) (split LF rest) (after_end g line)
unfolding same bytes
end_due g line text rest e = rw e (end_line_lem g line (end_bytes ++ rest) (rw (lt-ltb 3 (length (end_bytes ++ rest)) (omega arith)) refl))

-- a text with a byte b is what stands before the first, b itself and what follows it
parted : (b : ℕ) (s : List ℕ) → has b s ≡ true → s ≡ before b s ++ (b ∷ after b s)
parted b s h =
    let inside = ltb-true (index_of b s) (length s) h in
    let at_first = eqb-true _ b (passes_at_first (λ x. eqb x b) s 0 inside) in
    split_at_first (λ x. eqb x b) s 0 inside ∙ rw (at_first, add-one (index_of b s))

pub not_end : (text : List ℕ) → pointwise eqb (take 4 text) end_bytes ≡ false → is_end text ≡ false
unfolding bytes
not_end text e = by (strip_prefix_is Decides-eqb text end_bytes None e) (is_end text) refl
  where
    by : ((rest : List ℕ) → text ≡ end_bytes ++ rest → ⊥) → (t : Bool) → is_end text ≡ t → t ≡ false
    by h true e =
        let (there, word) = both (has LF text) (same (before LF text) (bytes "end")) e in
        absurd (h (after LF text) (parted LF text there ∙ ap (λ (l : List ℕ). l ++ (LF ∷ after LF text)) (same_eq (before LF text) (bytes "end") word)))
    by h false e = refl

-- ---- after it

pub bytes_after : (g : Register) (line : ℕ) (rest : List ℕ) → eqb (length rest) 0 ≡ false
    → report_from (line + 1) (split LF rest) (after_end g line) ≡ refused_line BadLine (line + 1)
bytes_after g line [] e = absurd (true≢false e)
bytes_after g line (x ∷ rest) e = something_after g line (line + 1) (x ∷ rest) (omega arith)

pub closing_due : (g : Register) (line : ℕ) (rest : List ℕ) → eqb (length rest) 0 ≡ true
    → report_from (line + 1) (split LF rest) (after_end g line) ≡ closed (refusal g (Call.closing (3 * g.held.n))) g line
closing_due g line [] e = nothing_after g line (line + 1)
closing_due g line (x ∷ rest) e = absurd (let z = eqb-true (length (x ∷ rest)) 0 e in omega arith)
