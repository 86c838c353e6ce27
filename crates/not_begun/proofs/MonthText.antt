-- The report of period, members and what follows. Each line reads as the numbers that were printed, so the opening is the one that the text was
-- made of: it is refused, or accepted, and after the end line the closing comes next, or 9.
use mathlib.Core.Path.{◌≡◌, refl, sym, ap, ◌∙◌}
use mathlib.Core.Bool.{true, false, cond}
use mathlib.Core.List.{List, [], ◌∷◌, ◌++◌, map, flat_map, append_assoc, append-nil}
use Rattle.std.specs.Prelude.{Some}
use Rattle.std.specs.List.{AllByRecursion, range_with_len}
use Prim.Native.Nat.{ℕ, zero, suc, ◌+◌, ◌-◌, ◌^◌, ◌≤◌, ◌<◌}
use native.Mathlib.Omega.{arith}
use native.Mathlib.Numerals.{add-one}
use lib.Dec.{eqb, ltb}
use lib.ListN.{length, get_or, take, length-append, length-map}
use lib.Seq.{take-suc, take_all, length-take-le}
use borrow.Author.Tests.{eq-eqb, ne_eqb, le-ltb}
use Rattle.numbers.proofs.Lists.{none_any, every_mem, every_append, every_flat_map, every_weaken}
use Rattle.methodology.specs.declared.Opening.{Opening}
use Rattle.methodology.specs.Account.{members, first_day, last_day}
use Rattle.methodology.specs.Day.{group_number}
use Rattle.methodology.specs.Refusals.{clear, row◌when◌else◌, opening_rows, opening_refusal}
use Rattle.methodology.specs.Register.{Call, Register, start, refusal, step}
use Rattle.methodology.specs.Text.{tab, LF, bytes, same, split, decimal, number_of, every_field, also, bad_bytes, numbers_after, printed, Expected, period, member, day, after_end, read_period, Read, goes_on, opened, with_member, read_member, read_line, followed_by, report_from, report_of}
use Rattle.methodology.proofs.Splits.{split_first}
use Rattle.methodology.proofs.Short.{printed_short}
use Rattle.validation.specs.Slices.{with_each_list}
use Rattle.validation.specs.Passing.{InLimits}
use Rattle.validation.proofs.OpeningPasses.{opening_leaves}
use Rattle.as_printed.proofs.ReadBack.{Digit, all_digits, reads_back_as_text}
use Rattle.as_printed.proofs.PrintedLines.{Word, without, tabbed, line_with, line_fields_lem, line_ended}
use Rattle.not_begun.specs.NotBegun.{opening_lines, text_of}

-- ---- a line: a word, and up to four numbers

abbrev Ascii : ℕ → Type 0
Ascii x = ltb 127 x ≡ false

-- words that lines begin with
record Begins (w : List ℕ) : Type 0 where
  word : Word w
  short : length w ≤ 10
  ascii : AllByRecursion Ascii w
  alike : same w w ≡ true

good_bytes : (w numbers : List ℕ) → Begins w → length numbers ≤ 4 → bad_bytes (line_with w numbers) ≡ false
unfolding bad_bytes printed
good_bytes w numbers b few =
    let digits : (x : ℕ) → AllByRecursion Ascii (decimal x) = λ x. every_weaken Digit Ascii (λ y d. le-ltb 127 y (omega (arith, d.1))) (decimal x) (all_digits 19 x) in
    let ascii = every_append Ascii w (tabbed numbers) b.ascii (every_flat_map Ascii (λ x. tab ∷ decimal x) numbers (λ x i. (refl, digits x))) in
    let long : length (line_with w numbers) ≤ 512 = omega (arith, printed_short w numbers, length-append (line_with w numbers) (LF ∷ []), b.short) in
    rw (le-ltb 512 (length (line_with w numbers)) long, none_any (ltb 127) (line_with w numbers) (every_mem Ascii (line_with w numbers) ascii))

every_back : (numbers : List ℕ) → AllByRecursion (λ x. x < 10 ^ 13) numbers → every_field number_of (map decimal numbers) ≡ Some numbers
unfolding every_field also
every_back [] few = refl
every_back (x ∷ xs) few = rw (reads_back_as_text x few.0, every_back xs few.1) refl

reads_back : (w numbers : List ℕ) → Begins w → AllByRecursion (λ x. x < 10 ^ 13) numbers → numbers_after w (length numbers) (line_with w numbers) ≡ Some numbers
unfolding numbers_after
reads_back w numbers s few =
    let many : eqb (suc (length (map decimal numbers))) (length numbers + 1) ≡ true = eq-eqb _ _ (ap suc (length-map numbers decimal) ∙ omega arith) in
    rw (line_fields_lem w numbers (without tab w s.word.0), s.alike, many, every_back numbers few)

-- the line at the front of a text is read, and then the rest
line_read_lem : (i : ℕ) (w numbers rest : List ℕ) (e : Expected) → Begins w → length numbers ≤ 4
    → report_from i (split LF (printed w numbers ++ rest)) e ≡ followed_by (read_line e i (line_with w numbers)) (report_from (i + 1) (split LF rest))
unfolding report_from
line_read_lem i w numbers rest e b few =
    rw (line_ended w numbers rest (without LF w b.word.1), split_first LF rest, good_bytes w numbers b few)

begins_period : Begins (bytes "period")
unfolding bytes same
begins_period = record { word = (refl, refl); short = omega arith; ascii = (refl, (refl, (refl, (refl, (refl, (refl, tt)))))); alike = refl }

begins_member : Begins (bytes "member")
unfolding bytes same
begins_member = record { word = (refl, refl); short = omega arith; ascii = (refl, (refl, (refl, (refl, (refl, (refl, tt)))))); alike = refl }

begins_end : Begins (bytes "end")
unfolding bytes same
begins_end = record { word = (refl, refl); short = omega arith; ascii = (refl, (refl, (refl, tt))); alike = refl }

-- ---- the text

-- an opening that a text can bring to row 10: within the limits of row 1, and no first or last day of more than 13 digits
pub record Written (o : Opening) : Type 0 where
  pub in_limits : InLimits o
  pub first_short : (i : ℕ) → i < o.n → get_or o.firsts i 0 < 10 ^ 13
  pub last_short : (i : ℕ) → i < o.n → get_or o.lasts i 0 < 10 ^ 13

module _ (o : Opening) (w : Written o) where
  abbrev l : InLimits o
  l = w.in_limits

  abbrev period_line : List ℕ
  period_line = printed (bytes "period") (o.n ∷ o.k ∷ [])

  abbrev member_line : (m : ℕ) → List ℕ
  member_line m = printed (bytes "member") (m ∷ group_number o m ∷ first_day o m ∷ last_day o m ∷ [])

  -- the opening with what the first `count` members bring
  abbrev up_to : (count : ℕ) → Opening
  up_to count = with_each_list o (take count)

  number_is : (list : List ℕ) (count : ℕ) → get_or list (suc count - 1) 0 ≡ get_or list count 0
  number_is list count = ap (λ (i : ℕ). get_or list i 0) (omega arith)

  -- what a member's line adds to a list
  one_more : (list : List ℕ) → length list ≡ o.n → (count : ℕ) → count < o.n → take count list ++ (get_or list (suc count - 1) 0 ∷ []) ≡ take (suc count) list
  one_more list long count h = rw (number_is list count) (sym (take-suc list count 0 (omega (arith, h, long))))

  counted : (count : ℕ) → count ≤ o.n → length (take count o.groups) ≡ count
  counted count h = length-take-le count o.groups (omega (arith, l.groups_long))

  all_lists : (count : ℕ) → count ≡ o.n → up_to count ≡ o
  all_lists count h =
      rw (
        take_all count o.groups (omega (arith, h, l.groups_long)),
        take_all count o.firsts (omega (arith, h, l.firsts_long)),
        take_all count o.lasts (omega (arith, h, l.lasts_long)),
      ) refl

  -- the line of member `count` + 1: the opening call is made where it is the last
  member_read : (count i : ℕ) (rest : List ℕ) → count < o.n
      → report_from i (split LF (member_line (suc count) ++ rest)) (member (up_to count))
      ≡ (let o' = up_to (suc count) in
      followed_by (cond (eqb (suc count) o.n) (opened (refusal start (Call.opening o')) o') (goes_on [] (member o'))) (report_from (i + 1) (split LF rest)))
  unfolding read_line read_member with_member
  member_read count i rest h =
      let m = suc count in
      let group : group_number o m < 10 ^ 13 = omega (arith, number_is o.groups count, l.group_few count h) in
      let first : first_day o m < 10 ^ 13 = omega (arith, number_is o.firsts count, w.first_short count h) in
      let last : last_day o m < 10 ^ 13 = omega (arith, number_is o.lasts count, w.last_short count h) in
      let numbers = m ∷ group_number o m ∷ first_day o m ∷ last_day o m ∷ [] in
      let read = reads_back (bytes "member") numbers begins_member (omega (arith, h, l.members_few), (group, (first, (last, tt)))) in
      line_read_lem i (bytes "member") numbers rest (member (up_to count)) begins_member (omega arith)
      ∙ rw (
        read,
        one_more o.groups l.groups_long count h,
        one_more o.firsts l.firsts_long count h,
        one_more o.lasts l.lasts_long count h,
        counted m (omega arith),
        eq-eqb m m refl,
      )

  -- the opening call, made after them, and what follows it
  abbrev opening_call : (rest : Expected → List ℕ) → List ℕ
  opening_call rest = followed_by (opened (refusal start (Call.opening o)) o) rest

  -- from there on, where `left` are due, to what follows them
  from_member : (left count i : ℕ) (end : List ℕ) → 1 ≤ left → count + left ≡ o.n
      → report_from i (split LF (flat_map member_line (range_with_len (suc count) left) ++ end)) (member (up_to count))
      ≡ opening_call (report_from (i + left) (split LF end))
  unfolding flat_map followed_by
  from_member zero count i end some h = absurd (omega arith)
  from_member (suc zero) count i end some h =
      rw (append-nil (member_line (suc count)))
      (member_read count i end (omega arith) ∙ rw (eq-eqb (suc count) o.n (omega arith), all_lists (suc count) (omega arith)) refl)
  from_member (suc (suc left)) count i end some h =
      let more = flat_map member_line (range_with_len (suc (suc count)) (suc left)) in
      rw (add-one (suc count), append_assoc (member_line (suc count)) more end)
      (member_read count i (more ++ end) (omega arith)
      ∙ rw (ne_eqb (suc count) o.n (λ e. omega (arith, e)))
      (from_member (suc left) (suc count) (i + 1) end (omega arith) (omega arith) ∙ ap (λ (j : ℕ). opening_call (report_from j (split LF end))) (omega arith)))

  period_read : read_line period 1 (line_with (bytes "period") (o.n ∷ o.k ∷ [])) ≡ goes_on [] (member (up_to 0))
  unfolding read_line read_period
  period_read =
      let read = reads_back (bytes "period") (o.n ∷ o.k ∷ []) begins_period (omega (arith, l.members_few), (omega (arith, l.scenarios_few), tt)) in
      rw (read, le-ltb o.n 1 l.members_some, le-ltb 32 o.n l.members_few, le-ltb o.k 1 l.scenarios_some, le-ltb 16 o.k l.scenarios_few)

  -- up to the opening call
  pub to_the_opening : (rest : List ℕ) → report_of (opening_lines o ++ rest) ≡ opening_call (report_from (o.n + 2) (split LF rest))
  unfolding report_of followed_by
  to_the_opening rest =
      let lines = flat_map member_line (members o.n) in
      ap report_of (append_assoc period_line lines rest)
      ∙ line_read_lem 1 (bytes "period") (o.n ∷ o.k ∷ []) (lines ++ rest) period begins_period (omega arith)
      ∙ ap (λ (r : Read). followed_by r (report_from 2 (split LF (lines ++ rest)))) period_read
      ∙ from_member o.n 0 2 rest l.members_some (omega arith)
      ∙ ap (λ (i : ℕ). opening_call (report_from i (split LF rest))) (omega arith)

-- the end line
abbrev end_line : List ℕ
end_line = printed (bytes "end") []

end_read : (i : ℕ) (g : Register) (rest : List ℕ) → report_from i (split LF (end_line ++ rest)) (day g) ≡ report_from (i + 1) (split LF rest) (after_end g i)
unfolding read_line followed_by flat_map bytes same
end_read i g rest = line_read_lem i (bytes "end") [] rest (day g) begins_end (omega arith)

-- an opening that is accepted, and what follows the end line decides
module _ (o : Opening) (good : opening_rows o ≡ clear) where
  written_lem : Written o
  written_lem =
      let l = opening_leaves o good in
      record {
        in_limits = l.in_limits;
        first_short = λ i h. omega (arith, l.in_order i h, l.last_few i h);
        last_short = λ i h. omega (arith, l.last_few i h);
      }

  pub opening_clear : refusal start (Call.opening o) ≡ clear
  unfolding refusal opening_refusal row◌when◌else◌
  opening_clear = rw good

  pub to_the_end : (rest : List ℕ) → report_of (text_of o ++ rest) ≡ report_from (o.n + 3) (split LF rest) (after_end (step start (Call.opening o)) (o.n + 2))
  unfolding followed_by opened
  to_the_end rest =
      let g = step start (Call.opening o) in
      let read : followed_by (opened (refusal start (Call.opening o)) o) (report_from (o.n + 2) (split LF (end_line ++ rest)))
      ≡ report_from (o.n + 2 + 1) (split LF rest) (after_end g (o.n + 2)) =
      rw opening_clear (end_read (o.n + 2) g rest) in
      ap report_of (append_assoc (opening_lines o) end_line rest)
      ∙ to_the_opening o written_lem (end_line ++ rest)
      ∙ read
      ∙ ap (λ (i : ℕ). report_from i (split LF rest) (after_end g (o.n + 2))) (omega arith)
