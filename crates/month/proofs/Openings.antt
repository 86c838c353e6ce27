-- The member lines, one by one, and the opening call after the last: what is due of all is what is due of those that are left.
use mathlib.Core.Path.{◌≡◌, refl, sym, ap, ◌∙◌}
use mathlib.Core.Bool.{Bool, true, false, cond}
use mathlib.Core.List.{List, [], ◌∷◌, ◌++◌}
use Rattle.std.specs.Prelude.{None, Some}
use Prim.Native.Nat.{ℕ, suc, ◌+◌, ◌≤◌, ◌<◌}
use native.Mathlib.Omega.{arith}
use native.Mathlib.Numerals.{add-one}
use lib.Dec.{eqb}
use lib.ListN.{length, get_or, take, set, length-append, length-set}
use lib.Seq.{length-take-le}
use borrow.Author.Tests.{eqb-true, eq-eqb, ne_eqb}
use Rattle.std.proofs.lemmas.List.{take_more_set}
use Rattle.methodology.specs.declared.Opening.{Opening}
use Rattle.methodology.specs.declared.Refusal.TheVariants.{BadLine}
use Rattle.methodology.specs.Register.{Call, start, refusal}
use Rattle.methodology.specs.Text.{LF, bytes, split, refused_line, numbers_after, member, goes_on, opened, with_member, read_member, followed_by, report_from}
use Rattle.methodology.specs.Lines.{after, line_read}
use Rattle.methodology.proofs.Splits.{member_line_lem}
use Rattle.period.specs.Reading.{brought}
use Rattle.accounts.proofs.Line.{line_shorter}
use Rattle.month.specs.MemberLines.{members_due, opening_due, MemberBad}

-- ---- one line

-- what n and k and the lists of j members bring
abbrev upto : (n k j : ℕ) → (groups firsts lasts : List ℕ) → Opening
upto n k j groups firsts lasts = brought n k (take j groups) (take j firsts) (take j lasts)

-- the next line is member j + 1's of n
module _ (o : Opening) (j : ℕ) (long : length o.groups ≡ j) (text : List ℕ) where
  abbrev here : List ℕ
  here = report_from (2 + j) (split LF text) (member o)

  long_more : (group : ℕ) → length (o.groups ++ (group ∷ [])) ≡ suc j
  long_more group = length-append o.groups (group ∷ []) ∙ omega arith

  member_bad : line_read (numbers_after (bytes "member") 4) text ≡ None → here ≡ refused_line BadLine (2 + j)
  unfolding read_member followed_by
  member_bad e = member_line_lem o (2 + j) text ∙ rw e

  module _ (ns : List ℕ) (read : line_read (numbers_after (bytes "member") 4) text ≡ Some ns) where
    member_other : (get_or ns 0 0 ≡ j + 1 → ⊥) → here ≡ refused_line BadLine (2 + j)
    unfolding read_member with_member followed_by
    member_other h =
        member_line_lem o (2 + j) text
        ∙ rw (read, long_more (get_or ns 1 0), ne_eqb (get_or ns 0 0) (suc j) (λ z. h (omega arith)))

    -- what is due with this line read
    abbrev more : Opening
    more = with_member o (get_or ns 1 0) (get_or ns 2 0) (get_or ns 3 0)

    member_more : get_or ns 0 0 ≡ j + 1
        → here ≡ cond (eqb (suc j) o.n) (opening_due (after LF text) more) (report_from (2 + suc j) (split LF (after LF text)) (member more))
    unfolding read_member with_member followed_by
    member_more h =
        let z : 2 + j + 1 ≡ 2 + suc j = omega arith in
        member_line_lem o (2 + j) text
        ∙ rw (read, long_more (get_or ns 1 0), eq-eqb (get_or ns 0 0) (suc j) (omega arith), z) (by (eqb (suc j) o.n) refl)
      where
        by : (b : Bool) → eqb (suc j) o.n ≡ b
            → followed_by (cond b (opened (refusal start (Call.opening more)) more) (goes_on [] (member more))) (report_from (2 + suc j) (split LF (after LF text)))
            ≡ cond b (opening_due (after LF text) more) (report_from (2 + suc j) (split LF (after LF text)) (member more))
        by true q = ap (λ (x : ℕ). followed_by (opened (refusal start (Call.opening more)) more) (report_from (2 + x) (split LF (after LF text)))) (eqb-true (suc j) o.n q)
        by false q = refl

-- ---- all lines: those of j of n members are read, and what is left of the text is `rest`

abbrev left : (o : Opening) → (j : ℕ) → (rest : List ℕ) → List ℕ
left o j rest = cond (eqb j o.n) (opening_due rest o) (report_from (2 + j) (split LF rest) (member o))

pub record Left (text groups firsts lasts : List ℕ) (j : ℕ) (rest : List ℕ) : Type 0 where
  pub shorter : length rest + j ≤ length text
  pub firsts_long : length firsts ≡ length groups
  pub lasts_long : length lasts ≡ length groups
  pub same : (k : ℕ) → members_due text (length groups) k ≡ left (upto (length groups) k j groups firsts lasts) j rest

module _ {text groups firsts lasts : List ℕ} {j : ℕ} {rest : List ℕ} (l : Left text groups firsts lasts j rest) where
  abbrev held : (k : ℕ) → Opening
  held k = upto (length groups) k j groups firsts lasts

  module _ (h : j < length groups) where
    long : length (take j groups) ≡ j
    long = length-take-le j groups (omega arith)

    open_left : (k : ℕ) → members_due text (length groups) k ≡ report_from (2 + j) (split LF rest) (member (held k))
    open_left k = l.same k ∙ rw (ne_eqb j (length groups) (λ e. omega arith)) refl

    pub left_bad : line_read (numbers_after (bytes "member") 4) rest ≡ None → MemberBad text (length groups) j
    left_bad e = record { few = h; due = λ k. open_left k ∙ member_bad (held k) j long rest e }

    module _ {ns : List ℕ} (read : line_read (numbers_after (bytes "member") 4) rest ≡ Some ns) where
      pub left_other : (get_or ns 0 0 ≡ j + 1 → ⊥) → MemberBad text (length groups) j
      left_other m = record { few = h; due = λ k. open_left k ∙ member_other (held k) j long rest ns read m }

      -- a list with one more number of the line
      one_more : (list : List ℕ) → length list ≡ length groups → (x : ℕ) → take j list ++ (x ∷ []) ≡ take (j + 1) (set list j x)
      one_more list q x = sym (take_more_set list j x (omega (arith, h, q)))

      pub left_more : get_or ns 0 0 ≡ j + 1 → (next : List ℕ) → next ≡ after LF rest
          → Left text (set groups j (get_or ns 1 0)) (set firsts j (get_or ns 2 0)) (set lasts j (get_or ns 3 0)) (j + 1) next
      unfolding with_member
      left_more m next n =
          let size = length-set groups j (get_or ns 1 0) in
          record {
            shorter = omega (arith, l.shorter, ap length n, line_shorter _ rest ns read);
            firsts_long = length-set firsts j (get_or ns 2 0) ∙ l.firsts_long ∙ sym size;
            lasts_long = length-set lasts j (get_or ns 3 0) ∙ l.lasts_long ∙ sym size;
            same =
                λ k. ap (λ (n : ℕ). members_due text n k) size
                ∙ open_left k
                ∙ member_more (held k) j long rest ns read m
                ∙ rw (
                  size,
                  ← add-one j,
                  ← one_more groups refl (get_or ns 1 0),
                  ← one_more firsts l.firsts_long (get_or ns 2 0),
                  ← one_more lasts l.lasts_long (get_or ns 3 0),
                  ← n,
                ) refl;
          }
