-- What a report is made of: the lines of accepted days, and after them of what ends it, an accepted closing or a refusal. Line by line, the
-- register goes along, open since the opening, so that no closing is refused; and the text's day lines, of which a closing leaves none.
-- What holds of these lines holds of every report.
use mathlib.Core.Path.{◌≡◌, refl, ap, subst, ◌∙◌}
use mathlib.Core.Bool.{true, false, not, cond, ◌&&◌, ◌||◌}
use mathlib.Core.List.{List, [], ◌∷◌, ◌++◌}
use Rattle.std.specs.Prelude.{Option, None, Some, Ok, Err}
use Prim.Native.Nat.{ℕ, suc, ◌+◌, ◌-◌, ◌*◌, ◌≤◌}
use native.Mathlib.Omega.{arith}
use lib.Dec.{ltb, eqb}
use lib.ListN.{length, get_or, drop}
use lib.Seq.{get_or-drop}
use borrow.Author.Tests.{eq-eqb, ltb-false}
use Rattle.std.specs.List.{list_any}
use Rattle.numbers.proofs.Tests.{neither, both}
use Rattle.methodology.specs.declared.Status.TheVariants.{Open}
use Rattle.methodology.specs.declared.Refusal.{Refusal}
use Rattle.methodology.specs.declared.Refusal.TheVariants.{BadOpening, BadLengths, BadLine}
use Rattle.methodology.specs.declared.Opening.{Opening}
use Rattle.methodology.specs.Account.{DayInput}
use Rattle.methodology.specs.RowNumbers.{row_index}
use Rattle.methodology.specs.Refusals.{Verdict, clear, row◌when◌else◌, outside, n_outside, k_outside, count_outside, closing_refusal}
use Rattle.methodology.specs.Register.{Call, Register, start, refusal, accept, step, returned, written}
use Rattle.methodology.specs.Text.{LF, bytes, same, onto, split, fields, is_digit, value_from, number_of, also, every_field, numbers_after, bad_bytes, AccountLine, account_of, refused_line, line_named, day_lines, fund_lines, Expected, period, member, day, account, after_end, Read, goes_on, bad, read_period, opening_line_named, opened, with_member, read_member, read_day, sized, with_account, read_account, read_line, closed, at_end, followed_by, report_from, report_of}
use Rattle.methodology.specs.Lines.{before}
use Rattle.methodology.proofs.Passed.{step_clear, by_test}
use Rattle.methodology.proofs.RowLimits.{Few, RowFew, refusal_few}
use Rattle.methodology.proofs.Splits.{split_first, same_eq}
use Rattle.methodology.proofs.Enough.{Enough, EnoughAfter, enough_line, after_line}

-- ---- the parts

abbrev pub day_call : Register → DayInput → Call
day_call g d = Call.day d (5 * g.held.n)

abbrev pub closing_call : Register → Call
closing_call g = Call.closing (3 * g.held.n)

-- what an accepted day and an accepted closing print, where g is the register as the call leaves it
abbrev pub sized_lines : (after : Register) → DayInput → Call → List ℕ
sized_lines g d call = day_lines d.terms.number g.held.n (returned g call) (written g call)

abbrev pub closed_lines : (after : Register) → Call → List ℕ
closed_lines g call = fund_lines g.held.n (returned g call) (written g call)

-- The rest of a report from register g on, where `days` are the numbers on the day lines that are left of the text: an accepted day's is
-- their first, and at an accepted closing none is left. No refusal names a line after `last`.
pub data Rest (last : ℕ) : Register → (days : List ℕ) → List ℕ → Type 0 where
  a_day_lem : {g : Register} {days rest : List ℕ} (d : DayInput) → refusal g (day_call g d) ≡ clear → Rest last (step g (day_call g d)) days rest
      → Rest last g (d.terms.number ∷ days) (sized_lines (step g (day_call g d)) d (day_call g d) ++ rest)
  a_fund : {g : Register} → refusal g (closing_call g) ≡ clear → Rest last g [] (closed_lines (step g (closing_call g)) (closing_call g))
  a_refusal : {g : Register} {days : List ℕ} (met : Refusal) (line : ℕ) → line ≤ last → Rest last g days (refused_line met line)

-- a report of n members on a text with these days: it is refused before a period is open, or goes on from there
pub data Report (n last : ℕ) (days : List ℕ) : List ℕ → Type 0 where
  a_period : {s : List ℕ} (o : Opening) → o.n ≡ n → o.n ≤ 32 → refusal start (Call.opening o) ≡ clear
      → Rest last (step start (Call.opening o)) days s → Report n last days s
  no_period : (met : Refusal) (line : ℕ) → line ≤ last → Report n last days (refused_line met line)

-- the status that an accepted call leaves
status_is : (g : Register) (c : Call) → refusal g c ≡ clear → (step g c).status ≡ (accept g c).status
status_is g c e = ap (λ (x : Register). x.status) (step_clear g c e)

-- the closing of a text is not refused: its period is open, and its output 3n long
pub closing_clear : (g : Register) → g.status ≡ Open → refusal g (closing_call g) ≡ clear
unfolding refusal closing_refusal row◌when◌else◌
closing_clear g is = rw (is, eq-eqb (3 * g.held.n) (3 * g.held.n) refl)

-- the line that a refused opening names is at most 257, and the one that a refused day names at most 257 after the day line
opening_named_few : (last : ℕ) (member : Option ℕ) → Few member → 257 ≤ last → opening_line_named member ≤ last
opening_named_few last None few h = omega arith
opening_named_few last (Some m) few h = omega arith

named_few : (last at : ℕ) (index : Option ℕ) → Few index → at + 257 ≤ last → line_named at index ≤ last
named_few last at None few h = omega arith
named_few last at (Some index) few h = omega arith

-- ---- what a line tells

abbrev word_of : (line : List ℕ) → List ℕ
word_of l = get_or (fields l) 0 []

abbrev Worded : (word line : List ℕ) → Type 0
Worded word l = same (word_of l) word ≡ true

-- the number after its word
abbrev told_by : (line : List ℕ) → ℕ
told_by l = value_from 0 (get_or (fields l) 1 [])

-- the numbers on the day lines from a line on, where `days` are those after it
abbrev with_line : (line : List ℕ) → (days : List ℕ) → List ℕ
with_line l days = cond (same (word_of l) (bytes "day")) (told_by l ∷ days) days

abbrev pub days_told : (lines : List (List ℕ)) → List ℕ
days_told [] = []
days_told (l ∷ ls) = with_line l (days_told ls)

-- a line of another word tells no day
other_word : (l word days : List ℕ) → same word (bytes "day") ≡ false → Worded word l → days ≡ with_line l days
other_word l word days other is = rw (same_eq (word_of l) word is, other) refl

-- what holds of what is read, if it is
abbrev IfRead : {A : Type 0} → (A → Type 0) → Option A → Type 0
IfRead P None = Unit {0}
IfRead P (Some x) = P x

-- numbers are read after their word, and the first of them is the line's
abbrev Tells : (word line numbers : List ℕ) → Type 0
Tells word l ns = Worded word l × (get_or ns 0 0 ≡ told_by l)

first_read : (fs : List (List ℕ)) → IfRead (λ ns. get_or ns 0 0 ≡ value_from 0 (get_or fs 0 [])) (every_field number_of fs)
unfolding every_field value_from number_of also
first_read [] = refl
first_read (f ∷ fs) =
    let odd = outside 1 13 (length f) || list_any (λ b. not (is_digit b)) f || eqb (get_or f 0 0) 48 && ltb 1 (length f) in
    by_test (λ (x : Option ℕ). IfRead First (also x (every_field number_of fs))) odd None (Some (value_from 0 f)) (λ e. tt) (λ e. by (every_field number_of fs))
  where
    First : List ℕ → Type 0
    First ns = get_or ns 0 0 ≡ value_from 0 f

    by : (xs : Option (List ℕ)) → IfRead First (also (Some (value_from 0 f)) xs)
    by None = tt
    by (Some vs) = refl

numbers_tell : (word : List ℕ) (count : ℕ) (l : List ℕ) → IfRead (Tells word l) (numbers_after word count l)
unfolding numbers_after
numbers_tell word count l =
    let formed = same (word_of l) word && eqb (length (fields l)) (count + 1) in
    by_test (IfRead (Tells word l)) formed (every_field number_of (drop 1 (fields l))) None
    (λ e. by (both (same (word_of l) word) _ e).0 _ (rw (get_or-drop 1 (fields l) 0 []) at (first_read (drop 1 (fields l))))) (λ e. tt)
  where
    by : Worded word l → (x : Option (List ℕ)) → IfRead (λ ns. get_or ns 0 0 ≡ told_by l) x → IfRead (Tells word l) x
    by is None first = tt
    by is (Some ns) first = (is, first)

account_tells : (k : ℕ) (l : List ℕ) → IfRead (λ a. Worded (bytes "acct") l) (account_of k l)
unfolding account_of
account_tells k l =
    let formed = same (word_of l) (bytes "acct") && eqb (length (fields l)) (7 + k) in
    by_test (IfRead (λ a. Worded (bytes "acct") l)) formed _ None (λ e. by (both (same (word_of l) (bytes "acct")) _ e).0 _) (λ e. tt)
  where
    by : Worded (bytes "acct") l → (x : Option AccountLine) → IfRead (λ a. Worded (bytes "acct") l) x
    by is None = tt
    by is (Some a) = is

-- ---- the bytes that a line leaves

-- where m are enough, those that a good line leaves are enough after it
enough_left : (m : ℕ) (e : Expected) (i : ℕ) (l : List ℕ) → bad_bytes l ≡ false → Enough m e → EnoughAfter (m - suc (length l)) (read_line e i l)
unfolding bad_bytes
enough_left m e i l good k =
    let left = m - suc (length l) in
    let short = ltb-false 512 (length l) (neither (ltb 512 (length l)) _ good).0 in
    let all : m ≡ length l + 1 + left = omega (arith, enough_line m e k) in
    after_line left e i l (omega arith) (subst (λ (m : ℕ). Enough m e) all k)

-- ---- what is known where a line is expected, and what its report is from there on

module _ (n last : ℕ) where
  abbrev Ready : Expected → Type 0
  Ready period = ⊥
  Ready (member o) = (o.n ≡ n) × (o.n ≤ 32)
  Ready (day g) = g.status ≡ Open
  Ready (account g d at count used) = (g.status ≡ Open) × (at + 257 ≤ last)
  Ready (after_end g at) = (g.status ≡ Open) × (at ≤ last)

  -- `days` are those of the lines that are left; where an account is expected, its day's line is read already
  abbrev From : Expected → (days : List ℕ) → List ℕ → Type 0
  From period days s = Report n last days s
  From (member o) days s = Report n last days s
  From (day g) days s = Rest last g days s
  From (account g d at count used) days s = Rest last g (d.terms.number ∷ days) s
  From (after_end g at) days s = Rest last g days s

  -- m bytes of what is left are enough, so no more lines than these are read
  abbrev Goes : (m : ℕ) → (days : List ℕ) → (Expected → List ℕ) → Type 0
  Goes m days rest = (e : Expected) → Enough m e → Ready e → From e days (rest e)

  refused_from : (e : Expected) (days : List ℕ) (met : Refusal) (line : ℕ) → line ≤ last → From e days (refused_line met line)
  refused_from period days met line k = no_period met line k
  refused_from (member o) days met line k = no_period met line k
  refused_from (day g) days met line k = a_refusal met line k
  refused_from (account g d at count used) days met line k = a_refusal met line k
  refused_from (after_end g at) days met line k = a_refusal met line k

  -- ---- a line

  module _ (i : ℕ) (near : i + 257 ≤ last) (l : List ℕ) (m : ℕ) (days : List ℕ) (rest : Expected → List ℕ) (goes : Goes m days rest) where
    -- it prints, and what follows it does, where `those` are the days from it on
    abbrev Gives : (those : List ℕ) → Expected → Read → Type 0
    Gives those e r = EnoughAfter m r → From e those (followed_by r rest)

    abbrev Prints : Expected → Read → Type 0
    Prints e r = Gives (with_line l days) e r

    so_told : {those : List ℕ} (e : Expected) (r : Read) → those ≡ with_line l days → Gives those e r → Prints e r
    so_told e r is gives k = subst (λ (those : List ℕ). From e those (followed_by r rest)) is (gives k)

    line_9 : (those : List ℕ) (e : Expected) → Gives those e (bad i)
    unfolding followed_by
    line_9 those e k = refused_from e those BadLine i (omega arith)

    by_opened : (x : Verdict) (o : Opening) → refusal start (Call.opening o) ≡ x → RowFew x → Ready (member o) → Gives days (member o) (opened x o)
    unfolding opened followed_by accept
    by_opened (Ok _) o e few r k = a_period o r.0 r.1 e (goes (day (step start (Call.opening o))) k (status_is start (Call.opening o) e))
    by_opened (Err met) o e few r k = no_period met (opening_line_named (row_index met)) (opening_named_few last (row_index met) few (omega arith))

    by_member : (o : Opening) (read : Option (List ℕ)) → IfRead (Tells (bytes "member") l) read → Ready (member o) → Prints (member o) (read_member o i read)
    unfolding read_member with_member followed_by bytes same
    by_member o None t r = line_9 _ (member o)
    by_member o (Some ns) t r =
        let P = Gives days (member o) in
        let o' = with_member o (get_or ns 1 0) (get_or ns 2 0) (get_or ns 3 0) in
        let last_one = by_opened _ o' refl (refusal_few start (Call.opening o')) r in
        so_told (member o) _ (other_word l (bytes "member") days refl t.0)
        (by_test P (eqb (get_or ns 0 0) (length o'.groups)) _ _
        (λ e. by_test P (eqb (length o'.groups) o.n) _ _ (λ all. last_one) (λ more k. goes (member o') k r))
        (λ e. line_9 days (member o)))

    by_day : (g : Register) (read : Option (List ℕ)) → IfRead (Tells (bytes "day") l) read → Ready (day g) → Prints (day g) (read_day g i read)
    unfolding read_day followed_by
    by_day g None t r = line_9 _ (day g)
    by_day g (Some ns) t r =
        let those = get_or ns 0 0 ∷ days in
        so_told (day g) _ (rw (t.0, t.1) refl)
        (by_test (Gives those (day g)) (count_outside (get_or ns 1 0)) _ _ (λ e k. a_refusal BadLengths i (omega arith))
        (λ e k. goes (account g _ i _ 0) k (r, near)))

    by_sized : (x : Verdict) (g : Register) (d : DayInput) (at : ℕ) → refusal g (day_call g d) ≡ x → RowFew x → Ready (account g d at 0 0)
        → Gives days (account g d at 0 0) (sized x g d at)
    unfolding sized followed_by accept
    by_sized (Ok _) g d at e few (r, h) k = a_day_lem d e (goes (day (step g (day_call g d))) k (status_is g (day_call g d) e ∙ r))
    by_sized (Err met) g d at e few (r, h) k = a_refusal met (line_named at (row_index met)) (named_few last at (row_index met) few h)

    by_account : (g : Register) (d : DayInput) (at count used : ℕ) (read : Option AccountLine) → IfRead (λ a. Worded (bytes "acct") l) read
        → Ready (account g d at count used) → Prints (account g d at count used) (read_account g d at count used i read)
    unfolding read_account with_account followed_by bytes same
    by_account g d at count used None t h = line_9 _ (account g d at count used)
    by_account g d at count used (Some a) t h =
        let d' = with_account d a in
        so_told (account g d at count used) _ (other_word l (bytes "acct") days refl t)
        (by_test (Gives days (account g d at count used)) (eqb (length d'.headings) count) _ _
        (λ all. by_sized _ g d' at refl (refusal_few g (day_call g d')) h)
        (λ more k. goes (account g d' at count used) k h))

    -- the end line is no day line
    end_word : same l (bytes "end") ≡ true → days ≡ with_line l days
    unfolding bytes same split onto
    end_word e = rw (same_eq l (bytes "end") e) refl

    by_line : (e : Expected) → Ready e → Prints e (read_line e i l)
    unfolding read_line followed_by
    by_line period r = absurd r
    by_line (member o) r = by_member o _ (numbers_tell (bytes "member") 4 l) r
    by_line (day g) r =
        by_test (Prints (day g)) (same l (bytes "end")) _ _
        (λ e. so_told (day g) (goes_on [] (after_end g i)) (end_word e) (λ k. goes (after_end g i) k (r, omega arith)))
        (λ e. by_day g _ (numbers_tell (bytes "day") 2 l) r)
    by_line (account g d at count used) r =
        let now = used + length l + 1 in
        by_test (Prints (account g d at count used)) (ltb 65536 now) _ _ (λ e. line_9 _ (account g d at count used))
        (λ e. by_account g d at count now _ (account_tells g.held.k l) r)
    by_line (after_end g at) r = line_9 _ (after_end g at)

    by_period : (read : Option (List ℕ)) → told_by l ≡ n → IfRead (Tells (bytes "period") l) read → Prints period (read_period i read)
    unfolding read_period followed_by bytes same
    by_period None is t = line_9 _ period
    by_period (Some ns) is t =
        so_told period _ (other_word l (bytes "period") days refl t.0)
        (by_test (Gives days period) (n_outside (get_or ns 0 0) || k_outside (get_or ns 1 0)) _ _ (λ e k. no_period BadOpening i (omega arith))
        (λ e k. goes (member _) k (t.1 ∙ is, k.1)))

  -- ---- the end

  by_closed : (g : Register) (at : ℕ) → g.status ≡ Open → Rest last g [] (closed (refusal g (closing_call g)) g at)
  unfolding closed
  by_closed g at r = rw (closing_clear g r) (a_fund (closing_clear g r))

  by_end : (e : Expected) (i : ℕ) (l : List ℕ) → i ≤ last → Ready e → From e (with_line l []) (at_end e i l)
  unfolding at_end bytes same split
  by_end period i l h r = absurd r
  by_end (member o) i l h r = no_period BadLine i h
  by_end (day g) i l h r = a_refusal BadLine i h
  by_end (account g d at count used) i l h r = a_refusal BadLine i h
  by_end (after_end g at) i l h r =
      by_test (Rest last g (with_line l [])) (same l []) _ _ (λ e. rw (same_eq l [] e) (by_closed g at r.0)) (λ e. a_refusal BadLine i h)

  -- ---- the lines from one on

  from_line : (i m : ℕ) (l : List ℕ) (ls : List (List ℕ)) → i + m + 257 ≤ last → Goes m (days_told (l ∷ ls)) (report_from i (l ∷ ls))
  unfolding report_from
  from_line i m l [] near e k r = by_end e i l (omega arith) r
  from_line i m l (next ∷ ls) near e k r =
      let left = m - suc (length l) in
      let goes = from_line (i + 1) left next ls (omega (arith, enough_line m e k)) in
      by_test (λ (x : Read). From e (days_told (l ∷ next ∷ ls)) (followed_by x (report_from (i + 1) (next ∷ ls)))) (bad_bytes l) _ _
      (λ b. line_9 i (omega arith) l left _ _ goes _ e tt)
      (λ b. by_line i (omega arith) l left _ _ goes e r (enough_left m e i l b k))

-- ---- the whole report

-- bytes that are enough for a report
abbrev enough : ℕ
enough = 2131010

-- so no line is named past these, and an index counts 256 further
abbrev pub last_line : ℕ
last_line = enough + 258

-- n, as a text tells it: the number on its first line
abbrev pub members_told : (text : List ℕ) → ℕ
members_told text = told_by (get_or (split LF text) 0 [])

first_line : (l : List ℕ) (ls : List (List ℕ)) → Report (told_by l) last_line (days_told (l ∷ ls)) (report_from 1 (l ∷ ls) period)
unfolding report_from at_end read_line
first_line l [] = no_period BadLine 1 (omega arith)
first_line l (next ∷ ls) =
    let n = told_by l in
    let left = enough - suc (length l) in
    let goes = from_line n last_line 2 left next ls (omega arith) in
    by_test (λ (x : Read). Report n last_line (days_told (l ∷ next ∷ ls)) (followed_by x (report_from 2 (next ∷ ls)))) (bad_bytes l) _ _
    (λ b. line_9 n last_line 1 (omega arith) l left _ _ goes _ period tt)
    (λ b. by_period n last_line 1 (omega arith) l left _ _ goes _ refl (numbers_tell (bytes "period") 2 l) (enough_left enough period 1 l b (omega arith)))

pub reports : (text : List ℕ) → Report (members_told text) last_line (days_told (split LF text)) (report_of text)
unfolding report_of
reports text = rw (split_first LF text) (first_line (before LF text) _)
