-- The parts between the bytes b: the one before the first b, and the parts of what follows it. So a report is read line by line from the
-- front of what is left of the text.
use mathlib.Core.Path.{◌≡◌, refl, sym, ap, ap₂, ◌∙◌}
use mathlib.Core.Bool.{Bool, true, false, not, ◌&&◌, cond, true≢false}
use mathlib.Core.List.{List, [], ◌∷◌}
use Rattle.std.specs.Prelude.{Option, None}
use Prim.Native.Nat.{ℕ, suc, ◌+◌, ◌*◌, ◌<◌}
use native.Mathlib.Omega.{arith}
use lib.Dec.{eqb, ltb}
use lib.ListN.{length, take, drop}
use lib.Seq.{take_all}
use borrow.Author.Tests.{eqb-true, lt-ltb, le-ltb, ltb-true, ltb-false}
use Rattle.numbers.proofs.Tests.{both}
use Rattle.methodology.specs.declared.Opening.{Opening}
use Rattle.methodology.specs.Account.{DayInput}
use Rattle.methodology.specs.Register.{Call, Register, refusal}
use Rattle.methodology.specs.declared.Refusal.TheVariants.{BadLine}
use Rattle.methodology.specs.Text.{LF, bytes, same, onto, split, bad_bytes, numbers_after, account_of, refused_line, Expected, period, member, day, account, after_end, Read, bad, read_period, read_member, read_day, read_account, read_line, closed, at_end, followed_by, report_from}
use Rattle.methodology.specs.Lines.{index_of, has, before, after, is_end, line_read}

pub ltb_suc : (a b : ℕ) → ltb (suc a) (suc b) ≡ ltb a b
ltb_suc a b = by (ltb a b) refl
  where
    by : (t : Bool) → ltb a b ≡ t → ltb (suc a) (suc b) ≡ t
    by true e = let l = ltb-true a b e in lt-ltb (suc a) (suc b) (omega arith)
    by false e = let l = ltb-false a b e in le-ltb (suc a) (suc b) (omega arith)

-- one byte more at the front
split_step : (t : Bool) (b x : ℕ) (s : List ℕ) → split b s ≡ before b s ∷ cond (has b s) (split b (after b s)) []
    → (let i = cond (not t) (1 + index_of b s) 0 in cond t ([] ∷ split b s) (onto x (split b s)) ≡ take i (x ∷ s) ∷ cond (ltb i (suc (length s))) (split b (drop (suc i) (x ∷ s))) [])
unfolding onto
split_step true b x s e = rw (lt-ltb 0 (suc (length s)) (omega arith))
split_step false b x s e = let next : 1 + index_of b s ≡ suc (index_of b s) = omega arith in rw (next, ltb_suc (index_of b s) (length s), e)

pub split_first : (b : ℕ) (s : List ℕ) → split b s ≡ before b s ∷ cond (has b s) (split b (after b s)) []
unfolding split
split_first b [] = refl
split_first b (x ∷ s) = split_step (eqb x b) b x s (split_first b s)

-- ---- the report from the line at the front of a text on

module _ (i : ℕ) (s : List ℕ) (e : Expected) where
  pub line_there : has LF s ≡ true → report_from i (split LF s) e ≡ followed_by (cond (bad_bytes (before LF s)) (bad i) (read_line e i (before LF s))) (report_from (i + 1) (split LF (after LF s)))
  unfolding report_from
  line_there h = rw (split_first LF s, h, split_first LF (after LF s))

  pub line_missing : has LF s ≡ false → report_from i (split LF s) e ≡ at_end e i (before LF s)
  unfolding report_from
  line_missing h = rw (split_first LF s, h)

-- A line that is due with a reading of its own: what no LF ends, bad bytes and a line of another form are refused alike.
by_reading : {A : Type 0} (i : ℕ) (s : List ℕ) (e : Expected) (reading : List ℕ → Option A) (f : Option A → Read) → f None ≡ bad i → at_end e i (before LF s) ≡ refused_line BadLine i
    → (has LF s ≡ true → read_line e i (before LF s) ≡ f (reading (before LF s))) → report_from i (split LF s) e ≡ followed_by (f (line_read reading s)) (report_from (i + 1) (split LF (after LF s)))
unfolding line_read followed_by
by_reading i s e reading f none_is missing_is there-is = by (has LF s) (bad_bytes (before LF s)) refl refl
  where
    by : (h b : Bool) → has LF s ≡ h → bad_bytes (before LF s) ≡ b
        → report_from i (split LF s) e ≡ followed_by (f (cond (h && not b) (reading (before LF s)) None)) (report_from (i + 1) (split LF (after LF s)))
    by false b k q = line_missing i s e k ∙ missing_is ∙ ap (λ (r : Read). followed_by r (report_from (i + 1) (split LF (after LF s)))) (sym none_is)
    by true true k q = line_there i s e k ∙ rw (q, none_is)
    by true false k q = line_there i s e k ∙ rw (q, there-is k)

pub period_line_lem : (i : ℕ) (s : List ℕ) → report_from i (split LF s) period ≡ followed_by (read_period i (line_read (numbers_after (bytes "period") 2) s)) (report_from (i + 1) (split LF (after LF s)))
unfolding read_period read_line at_end
period_line_lem i s = by_reading i s period (numbers_after (bytes "period") 2) (read_period i) refl refl (λ h. refl)

pub member_line_lem : (o : Opening) (i : ℕ) (s : List ℕ) → report_from i (split LF s) (member o) ≡ followed_by (read_member o i (line_read (numbers_after (bytes "member") 4) s)) (report_from (i + 1) (split LF (after LF s)))
unfolding read_member read_line at_end
member_line_lem o i s = by_reading i s (member o) (numbers_after (bytes "member") 4) (read_member o i) refl refl (λ h. refl)

-- ---- among the days

pub same_eq : (s t : List ℕ) → same s t ≡ true → s ≡ t
unfolding same
same_eq [] [] e = refl
same_eq [] (y ∷ t) e = absurd (true≢false (sym e))
same_eq (x ∷ s) [] e = absurd (true≢false (sym e))
same_eq (x ∷ s) (y ∷ t) e = let (h, k) = both (eqb x y) (same s t) e in ap₂ (λ (a : ℕ) (l : List ℕ). a ∷ l) (eqb-true x y h) (same_eq s t k)

pub end_line_lem : (g : Register) (i : ℕ) (s : List ℕ) → is_end s ≡ true → report_from i (split LF s) (day g) ≡ report_from (i + 1) (split LF (after LF s)) (after_end g i)
unfolding followed_by read_line bytes bad_bytes same
end_line_lem g i s e =
    let (h, k) = both (has LF s) (same (before LF s) (bytes "end")) e in
    line_there i s (day g) h ∙ rw (same_eq (before LF s) (bytes "end") k)

pub day_line : (g : Register) (i : ℕ) (s : List ℕ) → is_end s ≡ false
    → report_from i (split LF s) (day g) ≡ followed_by (read_day g i (line_read (numbers_after (bytes "day") 2) s)) (report_from (i + 1) (split LF (after LF s)))
unfolding read_day read_line at_end
day_line g i s e = by_reading i s (day g) (numbers_after (bytes "day") 2) (read_day g i) refl refl (λ h. let k : same (before LF s) (bytes "end") ≡ false = rw h at e in rw k)

cond_same : (b : Bool) (x : Read) → cond b x x ≡ x
cond_same true x = refl
cond_same false x = refl

-- the bytes of a day's acct lines up to this one
abbrev pub used_by : (used : ℕ) → List ℕ → ℕ
used_by used s = used + length (before LF s) + 1

pub account_line : (g : Register) (d : DayInput) (at count used i : ℕ) (s : List ℕ)
    → report_from i (split LF s) (account g d at count used)
    ≡ followed_by (cond (ltb 65536 (used_by used s)) (bad i) (read_account g d at count (used_by used s) i (line_read (account_of g.held.k) s))) (report_from (i + 1) (split LF (after LF s)))
unfolding read_account read_line at_end
account_line g d at count used i s =
    by_reading i s (account g d at count used) (account_of g.held.k) (λ o. cond (ltb 65536 (used_by used s)) (bad i) (read_account g d at count (used_by used s) i o))
    (cond_same (ltb 65536 (used_by used s)) (bad i)) refl (λ h. refl)

-- ---- after the end line

pub nothing_after : (g : Register) (at i : ℕ) → report_from i (split LF []) (after_end g at) ≡ closed (refusal g (Call.closing (3 * g.held.n))) g at
unfolding report_from split at_end same
nothing_after g at i = refl

pub something_after : (g : Register) (at i : ℕ) (s : List ℕ) → 0 < length s → report_from i (split LF s) (after_end g at) ≡ refused_line BadLine i
unfolding followed_by read_line at_end same
something_after g at i [] h = absurd (omega arith)
something_after g at i (x ∷ s) h = by (has LF (x ∷ s)) refl
  where
    by : (b : Bool) → has LF (x ∷ s) ≡ b → report_from i (split LF (x ∷ s)) (after_end g at) ≡ refused_line BadLine i
    by true k = line_there i (x ∷ s) (after_end g at) k ∙ ap (λ (r : Read). followed_by r (report_from (i + 1) (split LF (after LF (x ∷ s))))) (cond_same (bad_bytes (before LF (x ∷ s))) (bad i))
    by false k =
        let all : before LF (x ∷ s) ≡ x ∷ s = take_all (index_of LF (x ∷ s)) (x ∷ s) (ltb-false _ _ k) in
        line_missing i (x ∷ s) (after_end g at) k ∙ ap (at_end (after_end g at) i) all
