-- What a call's answer prints, as it is read back: an accepted day's lines add up, and a closing's lines and a refusal's are no day's.
use mathlib.Core.Path.{◌≡◌, refl, sym, ap, subst, ◌∙◌}
use mathlib.Core.Bool.{Bool, true, ◌||◌, false≢true}
use mathlib.Core.List.{List, [], ◌∷◌, ◌++◌, map, map-map, map-id}
use Prim.Native.Nat.{ℕ, suc, ◌-◌, ◌*◌, ◌<◌, ◌≤◌}
use native.Mathlib.Omega.{arith}
use lib.ListN.{length, get_or, take}
use Rattle.std.specs.List.{AllByRecursion}
use Rattle.numbers.specs.Sums.{Σ}
use Rattle.numbers.proofs.Lists.{mem_range, part_length, keep_none, every_mem, every_append, every_map, every_take, every_drop}
use Rattle.numbers.proofs.Sums.{Σ-map}
use Rattle.numbers.proofs.Tests.{neither}
use Rattle.methodology.specs.Account.{members}
use Rattle.methodology.specs.Day.{share}
use Rattle.methodology.specs.Text.{bytes, same, split, stretch, refused_line, rows, column_sum, totals, day_lines, fund_lines}
use Rattle.methodology.specs.declared.Refusal.{Refusal}
use Rattle.methodology.specs.RowNumbers.{row_number}
use Rattle.methodology.proofs.RowLimits.{occurs, at_most_10, row_occurs}
use Rattle.demand3.specs.Demand3.{Fits64}
use Rattle.as_printed.specs.AsPrinted.{Line, worded, lines_of, day_numbers, has_fund, DayRead, lines_of_day, AddsUp, Other, FundSays}
use Rattle.as_printed.proofs.PrintedLines.{Word, Shows, shows_line, shows_then, shows_each}

-- a line that tells of a refusal has a number that occurs
abbrev pub Told : Line → Type 0
Told l = same l.word (bytes "refused") ≡ true → occurs (get_or l.numbers 0 0) ≡ true

-- member m's line has its number before its stretch
abbrev of_member : (width : ℕ) (out : List ℕ) (m : ℕ) → List ℕ
of_member width out m = m ∷ stretch width m out

shows_rows : (word : List ℕ) (width n : ℕ) (out : List ℕ) → Word word → n ≤ 32 → AllByRecursion Fits64 out
    → Shows (rows word width n out) (map (λ m. worded word (of_member width out m)) (members n))
unfolding rows
shows_rows word width n out w few fit =
    shows_each word (of_member width out) (members n) w
    (λ m i. (omega (arith, (mem_range 1 n i).1), every_take Fits64 width _ (every_drop Fits64 (width * (m - 1)) out fit)))

-- ---- an accepted day

module _ (number n T Max : ℕ) (out : List ℕ) where
  abbrev pub as_read : DayRead
  as_read = record { number = number; T = T; Max = Max; records = map (of_member 5 out) (members n); sums = totals n out }

  pub day_shows : AllByRecursion Fits64 (number ∷ T ∷ Max ∷ []) → AllByRecursion Fits64 out → AllByRecursion Fits64 (totals n out) → n ≤ 32
      → Shows (day_lines number n (T ∷ Max ∷ []) out) (lines_of_day as_read)
  unfolding day_lines bytes
  day_shows head fit sums few =
      let lines = sym (map-map (worded (bytes "daily")) (of_member 5 out) (members n)) in
      let records = subst (Shows (rows (bytes "daily") 5 n out)) lines (shows_rows (bytes "daily") 5 n out (refl, refl) few fit) in
      let day_line = shows_line (bytes "day") (number ∷ T ∷ Max ∷ []) (refl, refl) head in
      shows_then (shows_then day_line records) (shows_line (bytes "total") (totals n out) (refl, refl) sums)

  column_read : (c : ℕ) → column_sum 5 n out c ≡ Σ (map (of_member 5 out) (members n)) (λ numbers. get_or numbers (suc c) 0)
  unfolding column_sum
  column_read c = sym (Σ-map (of_member 5 out) (members n) (λ numbers. get_or numbers (suc c) 0))

  pub day_adds_up : length out ≡ 5 * n → get_or (totals n out) 0 0 ≡ T
      → (T ≡ 0 → (m : ℕ) → 1 ≤ m → m ≤ n → stretch 5 m out ≡ 0 ∷ 0 ∷ 0 ∷ 0 ∷ 0 ∷ [])
      → (0 < T → (m : ℕ) → 1 ≤ m → m ≤ n → get_or (stretch 5 m out) 1 0 ≡ share (get_or (stretch 5 m out) 0 0) T) → AddsUp n as_read
  unfolding totals
  day_adds_up long first zeros shares =
      record {
        of_members = map-map _ (of_member 5 out) (members n) ∙ map-id (members n);
        wide = every_map _ (of_member 5 out) (members n) (λ m i. let (low, high) = mem_range 1 n i in ap suc (part_length (5 * (m - 1)) 5 out (omega arith)));
        sums_are = rw (column_read 0, column_read 1, column_read 2, column_read 3, column_read 4);
        first_is = first;
        nothing_lost =
            λ none. every_map _ (of_member 5 out) (members n) (λ m i. let (low, high) = mem_range 1 n i in zeros none m low (omega arith));
        shares_are =
            λ some. every_map _ (of_member 5 out) (members n) (λ m i. let (low, high) = mem_range 1 n i in shares some m low (omega arith));
      }

  pub day_told : AllByRecursion Told (lines_of_day as_read)
  unfolding bytes same
  day_told =
      let daily = every_map Told (worded (bytes "daily")) as_read.records (λ numbers i e. absurd (false≢true e)) in
      ((λ e. absurd (false≢true e)), every_append Told (map (worded (bytes "daily")) as_read.records) _ daily ((λ e. absurd (false≢true e)), tt))

-- of the lines after a day's its own change nothing that is told, but that its number is put in front
past_rows : (records : List (List ℕ)) (sums : List ℕ) (ls : List Line)
    → let all = (map (worded (bytes "daily")) records ++ (worded (bytes "total") sums ∷ [])) ++ ls in
    (day_numbers all ≡ day_numbers ls) × (has_fund all ≡ has_fund ls)
unfolding bytes same
past_rows [] sums ls = (refl, refl)
past_rows (r ∷ rs) sums ls = past_rows rs sums ls

pub past_day : (d : DayRead) (ls : List Line)
    → (day_numbers (lines_of_day d ++ ls) ≡ d.number ∷ day_numbers ls) × (has_fund (lines_of_day d ++ ls) ≡ has_fund ls)
unfolding bytes same
past_day d ls = let (days, fund) = past_rows d.records d.sums ls in (ap (λ (those : List ℕ). d.number ∷ those) days, fund)

-- lines that are no days' tell no day
pub none_told : (ls : List Line) → AllByRecursion Other ls → day_numbers ls ≡ []
none_told ls other =
    let day_or_daily : Line → Bool = λ l. same l.word (bytes "day") || same l.word (bytes "daily") in
    ap (map _) (keep_none _ ls (λ l i. (neither _ _ (neither (day_or_daily l) _ (every_mem Other ls other l i)).0).0))

-- ---- what ends a report

-- bytes that are lines of no day; where they tell of a fund it has this D and this M, and none of the text's days is left
pub record Ends (D M : ℕ) (days s : List ℕ) : Type 0 where
  pub lines : List Line
  pub shows : Shows s lines
  pub other : AllByRecursion Other lines
  pub counts : AllByRecursion (FundSays D M) lines
  pub none_left : has_fund (lines ++ lines_of []) ≡ true → days ≡ []
  pub told : AllByRecursion Told lines

-- a closing's D and M stand first
pub fund_ends : {D M : ℕ} (n : ℕ) (figures out : List ℕ) → AllByRecursion Fits64 figures → AllByRecursion Fits64 out → n ≤ 32 → take 2 figures ≡ D ∷ M ∷ []
    → Ends D M [] (fund_lines n figures out)
unfolding fund_lines bytes same
fund_ends {D} {M} n figures out head fit few is =
    record {
      lines = (worded (bytes "fund") figures ∷ []) ++ map (λ m. worded (bytes "contribution") (of_member 3 out m)) (members n);
      shows = shows_then (shows_line (bytes "fund") figures (refl, refl) head) (shows_rows (bytes "contribution") 3 n out (refl, refl) few fit);
      other = (refl, every_map Other _ (members n) (λ m i. refl));
      counts = ((λ e. is), every_map (FundSays D M) _ (members n) (λ m i e. absurd (false≢true e)));
      none_left = λ e. refl;
      told = ((λ e. absurd (false≢true e)), every_map Told _ (members n) (λ m i e. absurd (false≢true e)));
    }

-- a refusal tells its row's number
pub refusal_ends : {D M : ℕ} {days : List ℕ} (met : Refusal) (line : ℕ) → Fits64 line → Ends D M days (refused_line met line)
unfolding bytes same split
refusal_ends met line fit =
    let number : Fits64 (row_number met) = omega (arith, at_most_10 (row_number met) (row_occurs met)) in
    record {
      lines = worded (bytes "refused") (row_number met ∷ line ∷ []) ∷ [];
      shows = shows_line (bytes "refused") (row_number met ∷ line ∷ []) (refl, refl) (number, (fit, tt));
      other = (refl, tt);
      counts = ((λ e. absurd (false≢true e)), tt);
      none_left = λ e. absurd (false≢true e);
      told = ((λ e. row_occurs met), tt);
    }
