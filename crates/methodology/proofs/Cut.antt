-- A text's report is that of its first 2,162,688 bytes: they are enough. Line by line, the cut text has the same line as long as an LF ends
-- it in time; where none does, the line is bad, with or without the bytes further on.
use mathlib.Core.Path.{◌≡◌, refl, sym, ap, ◌∙◌}
use mathlib.Core.Bool.{Bool, true, false, not, cond}
use mathlib.Core.List.{List, [], ◌∷◌, ◌++◌}
use Prim.Native.Nat.{ℕ, zero, suc, ◌+◌, ◌-◌, ◌≤◌, ◌<◌, min}
use native.Mathlib.Omega.{arith}
use lib.Dec.{ltb, eqb}
use lib.ListN.{length, take, length-drop, length-take}
use lib.Seq.{take_all, take-take, length-take-le}
use borrow.Author.Tests.{lt-ltb, ltb-true, ltb-false}
use Rattle.std.specs.List.{position_or_len}
use Rattle.std.proofs.lemmas.List.Sums.{prefix_len-le-length}
use Rattle.numbers.proofs.Lists.{drop_take}
use Rattle.methodology.specs.declared.Refusal.TheVariants.{BadLine}
use Rattle.methodology.specs.Text.{LF, same, split, bad_bytes, refused_line, Expected, period, member, day, account, after_end, Read, ends, goes_on, bad, read_line, at_end, followed_by, report_from, report_of}
use Rattle.methodology.specs.Lines.{index_of, has, before, after}
use Rattle.methodology.proofs.Splits.{line_there, line_missing}
use Rattle.methodology.proofs.Passed.{by_test}
use Rattle.methodology.proofs.Enough.{a_line, Enough, EnoughAfter, enough_line, after_line}

-- ---- the line at the front of a text that is cut

first_take : (p : ℕ → Bool) (m : ℕ) (s : List ℕ) → position_or_len p (take m s) ≡ min m (position_or_len p s)
first_take p zero s = omega arith
first_take p (suc m) [] = omega arith
first_take p (suc m) (x ∷ s) = by (p x) (first_take p m s)
  where
    by : (t : Bool) → position_or_len p (take m s) ≡ min m (position_or_len p s) → cond (not t) (1 + position_or_len p (take m s)) 0 ≡ min (suc m) (cond (not t) (1 + position_or_len p s) 0)
    by true e = omega arith
    by false e = omega arith

module _ (m : ℕ) (s : List ℕ) (longer : m < length s) (near : index_of LF s < m) where
  index_same : index_of LF (take m s) ≡ index_of LF s
  index_same = let e = first_take (λ x. eqb x LF) m s in omega arith

  has_cut : has LF (take m s) ≡ true
  has_cut = lt-ltb (index_of LF (take m s)) (length (take m s)) (omega (arith, index_same, length-take m s))

  has_whole : has LF s ≡ true
  has_whole = lt-ltb (index_of LF s) (length s) (omega arith)

  before_same : before LF (take m s) ≡ before LF s
  before_same = rw index_same (take-take (index_of LF s) m s (omega arith))

  after_cut : after LF (take m s) ≡ take (m - suc (index_of LF s)) (after LF s)
  after_cut = rw index_same (drop_take (suc (index_of LF s)) m s)

-- ---- a line that no LF ends in time

unended : (e : Expected) (i : ℕ) (rest : List ℕ) → 0 < length rest → at_end e i rest ≡ refused_line BadLine i
unfolding at_end same
unended period i rest h = refl
unended (member o) i rest h = refl
unended (day g) i rest h = refl
unended (account g d at count used) i rest h = refl
unended (after_end g at) i [] h = absurd (omega arith)
unended (after_end g at) i (x ∷ rest) h = refl

too_long : (i : ℕ) (s : List ℕ) (e : Expected) → a_line ≤ index_of LF s → report_from i (split LF s) e ≡ refused_line BadLine i
unfolding followed_by bad_bytes
too_long i s e h = by (has LF s) refl
  where
    long : length (before LF s) ≡ index_of LF s
    long = length-take-le (index_of LF s) s (prefix_len-le-length _ s)

    by : (t : Bool) → has LF s ≡ t → report_from i (split LF s) e ≡ refused_line BadLine i
    by true k = line_there i s e k ∙ rw (lt-ltb 512 (length (before LF s)) (omega (arith, long)))
    by false k = line_missing i s e k ∙ unended e i (before LF s) (omega (arith, long))

-- ---- the whole text

-- the first m bytes of s have its report, where they are enough
abbrev Same : (m : ℕ) (s : List ℕ) → Type 0
Same m s = (i : ℕ) (e : Expected) → Enough m e → report_from i (split LF (take m s)) e ≡ report_from i (split LF s) e

-- what follows a line, where the rest has the same report
followed_same : (m : ℕ) (r : Read) (f g : Expected → List ℕ) → EnoughAfter m r → ((e : Expected) → Enough m e → f e ≡ g e) → followed_by r f ≡ followed_by r g
unfolding followed_by
followed_same m (ends report) f g k h = refl
followed_same m (goes_on report next) f g k h = ap (λ (rest : List ℕ). report ++ rest) (h next k)

-- a line that an LF ends in time
in_time : (m : ℕ) (s : List ℕ) → m < length s → index_of LF s < a_line → Same (m - suc (index_of LF s)) (after LF s) → Same m s
in_time m s longer short rest i e k =
    let line = before LF s in
    let left = m - suc (index_of LF s) in
    let read = cond (bad_bytes line) (bad i) (read_line e i line) in
    let near : index_of LF s < m = omega (arith, enough_line m e k) in
    let all : m ≡ length line + 1 + left = omega (arith, length-take-le (index_of LF s) s (omega arith)) in
    let cut_off : report_from i (split LF (take m s)) e ≡ followed_by read (report_from (i + 1) (split LF (take left (after LF s)))) =
    line_there i (take m s) e (has_cut m s longer near) ∙ rw (before_same m s longer near, after_cut m s longer near) in
    let enough : EnoughAfter left read = by_test (EnoughAfter left) (bad_bytes line) _ _ (λ b. tt) (λ b. after_line left e i line (omega arith) (rw (← all) k)) in
    cut_off ∙ followed_same left read _ _ enough (rest (i + 1)) ∙ sym (line_there i s e (has_whole m s longer near))

same_step : (m : ℕ) (s : List ℕ) → Same (m - suc (index_of LF s)) (after LF s) → Same m s
same_step m s rest i e k = by (ltb m (length s)) (ltb (index_of LF s) a_line) refl refl
  where
    by : (longer near : Bool) → ltb m (length s) ≡ longer → ltb (index_of LF s) a_line ≡ near → report_from i (split LF (take m s)) e ≡ report_from i (split LF s) e
    by false near p q = rw (take_all m s (ltb-false m (length s) p))
    by true true p q = in_time m s (ltb-true m (length s) p) (ltb-true (index_of LF s) a_line q) rest i e k
    by true false p q =
        let far = ltb-false (index_of LF s) a_line q in
        too_long i (take m s) e (omega (arith, enough_line m e k, first_take (λ x. eqb x LF) m s)) ∙ sym (too_long i s e far)

same_all : (fuel m : ℕ) (s : List ℕ) → length s ≤ fuel → Same m s
same_all zero m s h = λ i e k. rw (take_all m s (omega arith))
same_all (suc fuel) m s h = same_step m s (same_all fuel (m - suc (index_of LF s)) (after LF s) (omega (arith, length-drop (suc (index_of LF s)) s)))

pub cut : (n : ℕ) (text : List ℕ) → 2162688 ≤ n → report_of (take n text) ≡ report_of text
unfolding report_of
cut n text h = same_all (length text) n text (omega arith) 1 period (omega arith)
