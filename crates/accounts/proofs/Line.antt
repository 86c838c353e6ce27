-- An account's line taken off the front of a text: what the report is then, for a bad line, one too many bytes, one more account, and the last.
use mathlib.Core.Path.{◌≡◌, refl, ap, ◌∙◌}
use mathlib.Core.Bool.{Bool, true, false, not, ◌&&◌, cond}
use mathlib.Core.List.{List, []}
use Rattle.std.specs.Prelude.{Option, None, Some}
use Prim.Native.Nat.{ℕ, suc, ◌+◌, ◌-◌, ◌*◌, ◌≤◌, ◌<◌}
use native.Mathlib.Omega.{arith}
use lib.Dec.{eqb, ltb}
use lib.ListN.{length, drop, length-take, length-drop}
use lib.Seq.{drop-drop, length-take-le}
use borrow.Author.Tests.{ltb-true, eq-eqb, ne_eqb, lt-ltb, le-ltb}
use Rattle.std.proofs.lemmas.List.Sums.{prefix_len-le-length}
use Rattle.methodology.specs.Account.{DayInput}
use Rattle.methodology.specs.Register.{Call, Register, refusal}
use Rattle.methodology.specs.declared.Refusal.TheVariants.{BadLine}
use Rattle.methodology.specs.Text.{LF, split, bad_bytes, AccountLine, account_of, refused_line, account, Read, goes_on, bad, sized, with_account, read_account, followed_by, report_from}
use Rattle.methodology.specs.Lines.{index_of, has, before, after, line_read}
use Rattle.methodology.proofs.Splits.{used_by, account_line}
use Rattle.accounts.specs.AcctLines.{EndsWith}

-- a line that was read, its LF and what follows them are the whole text
pub line_length : {A : Type 0} (reading : List ℕ → Option A) (s : List ℕ) (x : A) → line_read reading s ≡ Some x
    → length s ≡ length (before LF s) + 1 + length (after LF s)
unfolding line_read
line_length {A} reading s x e = by (has LF s) refl e
  where
    by : (t : Bool) → has LF s ≡ t → cond (t && not (bad_bytes (before LF s))) (reading (before LF s)) None ≡ Some x
        → length s ≡ length (before LF s) + 1 + length (after LF s)
    by true h e =
        omega (arith, ltb-true (index_of LF s) (length s) h, length-take-le (index_of LF s) s (prefix_len-le-length _ s), length-drop {A = ℕ})
    by false h e = cc

pub line_shorter : {A : Type 0} (reading : List ℕ → Option A) (s : List ℕ) (x : A) → line_read reading s ≡ Some x → length (after LF s) < length s
line_shorter reading s x e = omega (arith, line_length reading s x e)

-- what a text ends with still is that where a line is taken off its front
pub line_off : {A : Type 0} (reading : List ℕ → Option A) (text s : List ℕ) (x : A) (next : List ℕ) → line_read reading s ≡ Some x → next ≡ after LF s
    → EndsWith text s → EndsWith text next
line_off reading text s x next e n h =
    let long = line_length reading s x e in
    let off = suc (index_of LF s) in
    let cut : drop off (drop (length text - length s) text) ≡ drop (length text - length s + off) text = drop-drop off (length text - length s) text in
    let index : length text - length s + off ≡ length text - length next = omega (arith, ap length n, ap length h, long, length-take (index_of LF s) s, length-drop {A = ℕ}) in
    n ∙ ap (drop off) h ∙ cut ∙ ap (λ (i : ℕ). drop i text) index

module _ (g : Register) (d : DayInput) (at count used i : ℕ) (s : List ℕ) where
  abbrev due : List ℕ
  due = report_from i (split LF s) (account g d at count used)

  pub line_bad : line_read (account_of g.held.k) s ≡ None → due ≡ refused_line BadLine i
  unfolding read_account followed_by
  line_bad e = account_line g d at count used i s ∙ rw e (by (ltb 65536 (used_by used s)))
    where
      by : (t : Bool) → followed_by (cond t (bad i) (bad i)) (report_from (i + 1) (split LF (after LF s))) ≡ refused_line BadLine i
      by true = refl
      by false = refl

  pub line_over : 65536 < used_by used s → due ≡ refused_line BadLine i
  unfolding followed_by
  line_over h = account_line g d at count used i s ∙ rw (lt-ltb 65536 (used_by used s) h)

  -- the account a, with which the day is d'
  module _ (a : AccountLine) (e : line_read (account_of g.held.k) s ≡ Some a) (within : used_by used s ≤ 65536) (d' : DayInput) (more : with_account d a ≡ d') where
    abbrev rest : List (List ℕ)
    rest = split LF (after LF s)

    abbrev call : Read
    call = sized (refusal g (Call.day d' (5 * g.held.n))) g d' at

    line_read_lem : due ≡ followed_by (cond (eqb (length d'.headings) count) call (goes_on [] (account g d' at count (used_by used s)))) (report_from (i + 1) rest)
    unfolding read_account
    line_read_lem = account_line g d at count used i s ∙ rw (le-ltb 65536 (used_by used s) within, e, more)

    pub line_more : length d'.headings < count → due ≡ report_from (i + 1) rest (account g d' at count (used_by used s))
    unfolding followed_by
    line_more h = line_read_lem ∙ rw (ne_eqb (length d'.headings) count (λ z. omega arith))

    pub line_last : length d'.headings ≡ count → due ≡ followed_by call (report_from (i + 1) rest)
    line_last h = line_read_lem ∙ rw (eq-eqb (length d'.headings) count h)
