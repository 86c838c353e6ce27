-- Document 01's forms of a line, numbers or an account, are the row of signed numbers after its word, of which some may not be negative.
-- A number is a signed number that is not negative; the rest is by cases on what each field is.
use mathlib.Core.Path.{◌≡◌, refl, sym, ◌∙◌}
use mathlib.Core.Bool.{Bool, true, false, not, ◌&&◌, ◌||◌, cond}
use mathlib.Core.List.{List, [], ◌∷◌, ◌++◌, map}
use Rattle.std.specs.Prelude.{Option, None, Some}
use Prim.Native.Nat.{ℕ, zero, suc, ◌+◌, ◌<◌}
use native.Mathlib.Numerals.{add-one}
use native.Mathlib.Omega.{arith}
use lib.Dec.{eqb, ltb}
use lib.IntN.{ℤ, pos}
use lib.ListN.{length, get_or, take, drop}
use borrow.Author.Tests.{eqb-true, ne_eqb, le-ltb}
use Rattle.std.specs.List.{list_any}
use Rattle.numbers.specs.Signed.{◌⁺}
use Rattle.numbers.proofs.Tests.{neither}
use Rattle.methodology.specs.Refusals.{outside}
use Rattle.methodology.specs.Text.{AccountLine, LF, tab, bytes, same, fields, value_from, number_of, below0, above0, signed_of, kind_of, also, every_field, bad_bytes, numbers_after, account_by, account_of}
use Rattle.methodology.specs.Lines.{has, before, line_read}
use Rattle.fields.specs.Fields.{value_of}
use Rattle.lines.specs.Forms.{values_of, row_after, line_row, is_negative, npvs_in}
use Rattle.lines.proofs.RowOfLine.{also_none}
use Rattle.lines.proofs.Ascii.{foreign, any_split}

-- ---- one field

-- a signed number that is not negative
unfoldable pub natural : Option ℤ → Option ℕ
natural None = None
natural (Some z) = cond (is_negative z) None (Some (z ⁺))

-- a minus is no digit
minus_none : (f : List ℕ) → eqb (get_or f 0 0) 45 ≡ true → number_of f ≡ None
unfolding number_of
minus_none [] e = refl
minus_none (x ∷ f) e = rw (eqb-true x 45 e) (by (outside 1 13 (suc (length f))))
  where
    by : (a : Bool) → cond (a || true || eqb 45 48 && ltb 1 (suc (length f))) None (Some (value_from 0 (45 ∷ f))) ≡ None
    by true = refl
    by false = refl

below_none : (o : Option ℕ) → natural (below0 o) ≡ None
unfolding natural below0
below_none None = refl
below_none (Some zero) = refl
below_none (Some (suc v)) = rw (ne_eqb (suc v) 0 (λ e. omega arith))

above_same : (o : Option ℕ) → natural (above0 o) ≡ o
unfolding natural above0
above_same None = refl
above_same (Some v) = rw (le-ltb v 0 (omega arith))

number_signed : (f : List ℕ) → number_of f ≡ natural (signed_of f)
unfolding signed_of
number_signed f = by (eqb (get_or f 0 0) 45) refl
  where
    by : (t : Bool) → eqb (get_or f 0 0) 45 ≡ t → number_of f ≡ natural (cond t (below0 (number_of (drop 1 f))) (above0 (number_of f)))
    by true e = minus_none f e ∙ sym (below_none (number_of (drop 1 f)))
    by false e = sym (above_same (number_of f))

-- ---- a line

-- what is read of a line in two ways, where the one follows from the other for a line of good bytes
read_by : {A B : Type 0} (f : List ℕ → Option A) (h : List ℕ → Option B) (G : Option B → Option A) → G None ≡ None → ((l : List ℕ) → bad_bytes l ≡ false → f l ≡ G (h l))
    → (s : List ℕ) → line_read f s ≡ G (line_read h s)
unfolding line_read
read_by f h G e k s = by (has LF s) (bad_bytes (before LF s)) refl
  where
    by : (t b : Bool) → bad_bytes (before LF s) ≡ b → cond (t && not b) (f (before LF s)) None ≡ G (cond (t && not b) (h (before LF s)) None)
    by false b q = sym e
    by true true q = sym e
    by true false q = k (before LF s) q

-- two forms that test the same word and the same number of fields
form_by : {A B : Type 0} (b c : Bool) (x : Option A) (y : Option B) (G : Option B → Option A) → G None ≡ None → (c ≡ true → x ≡ G y) → cond (b && c) x None ≡ G (cond (b && c) y None)
form_by false c x y G e k = sym e
form_by true false x y G e k = sym e
form_by true true x y G e k = k refl

-- ---- numbers

-- signed numbers that are none of them negative
unfoldable pub naturals : Option (List ℤ) → Option (List ℕ)
naturals None = None
naturals (Some zs) = cond (list_any is_negative zs) None (Some (map (λ z. z ⁺) zs))

also_naturals : (a : Option ℤ) (o : Option (List ℤ)) → also (natural a) (naturals o) ≡ naturals (also a o)
unfolding also natural naturals
also_naturals None o = refl
also_naturals (Some x) None = also_none (natural (Some x))
also_naturals (Some x) (Some zs) = by (is_negative x) (list_any is_negative zs)
  where
    by : (s t : Bool) → also (cond s None (Some (x ⁺))) (cond t None (Some (map (λ z. z ⁺) zs))) ≡ cond (s || t) None (Some (x ⁺ ∷ map (λ z. z ⁺) zs))
    by true t = refl
    by false true = refl
    by false false = refl

-- fields of which none is a kind
number_fields : (j : ℕ) (fs : List (List ℕ)) → every_field number_of fs ≡ naturals (values_of None j fs)
unfolding every_field values_of value_of naturals
number_fields j [] = refl
number_fields j (f ∷ fs) =
    rw (number_signed f, number_fields (suc j) fs) (also_naturals (signed_of f) (values_of None (suc j) fs))

pub numbers_row : (word : List ℕ) (n : ℕ) (s : List ℕ) → line_read (numbers_after word n) s ≡ naturals (line_row word None n s)
unfolding numbers_after row_after naturals
numbers_row word n s =
    read_by (numbers_after word n) (row_after word None n) naturals refl
    (λ l q. rw (add-one n) (form_by (same (get_or (fields l) 0 []) word) (eqb (length (fields l)) (suc n)) _ _ naturals refl
    (λ e. number_fields 0 (drop 1 (fields l))))) s

-- ---- an account

-- an account's row: member, account number, kind, base, margin, extra, stresses
abbrev pub account_in : List ℤ → AccountLine
account_in zs =
    record {
      member = get_or zs 0 (pos 0) ⁺;
      number = get_or zs 1 (pos 0) ⁺;
      kind = get_or zs 2 (pos 0) ⁺;
      npvs = npvs_in zs;
      margin = get_or zs 4 (pos 0) ⁺;
      extra = get_or zs 5 (pos 0) ⁺;
    }

-- only NPVs may be negative; a kind is not
abbrev pub signs_wrong : List ℤ → Bool
signs_wrong zs =
    is_negative (get_or zs 0 (pos 0)) || is_negative (get_or zs 1 (pos 0)) || is_negative (get_or zs 4 (pos 0)) || is_negative (get_or zs 5 (pos 0))

unfoldable pub account_from : Option (List ℤ) → Option AccountLine
account_from None = None
account_from (Some zs) = cond (signs_wrong zs) None (Some (account_in zs))

account_none : (o : Option (List ℕ)) (kind : ℕ) → account_by o None kind ≡ None
unfolding account_by
account_none None kind = refl
account_none (Some ns) kind = refl

account_values : (a b : Option ℤ) (kind : ℕ) (c d e : Option ℤ) (r : Option (List ℤ))
    → account_by (also (natural a) (also (natural b) (also (natural d) (also (natural e) (Some []))))) (also c r) kind
    ≡ account_from (also a (also b (also (Some (pos kind)) (also c (also d (also e r))))))
unfolding also natural account_by account_from
account_values None b kind c d e r = refl
account_values (Some x) None kind c d e r = rw (also_none (natural (Some x)))
account_values (Some x) (Some y) kind None d e r = account_none (also (natural (Some x)) _) kind
account_values (Some x) (Some y) kind (Some z) None e r = rw (also_none (natural (Some y)), also_none (natural (Some x)))
account_values (Some x) (Some y) kind (Some z) (Some u) None r = rw (also_none (natural (Some u)), also_none (natural (Some y)), also_none (natural (Some x)))
account_values (Some x) (Some y) kind (Some z) (Some u) (Some v) None = account_none (also (natural (Some x)) _) kind
account_values (Some x) (Some y) kind (Some z) (Some u) (Some v) (Some r) = by (is_negative x) (is_negative y) (is_negative u) (is_negative v)
  where
    by : (p q s t : Bool)
        → account_by (also (cond p None (Some (x ⁺))) (also (cond q None (Some (y ⁺))) (also (cond s None (Some (u ⁺))) (also (cond t None (Some (v ⁺))) (Some []))))) (Some (z ∷ r)) kind
        ≡ cond (p || q || s || t) None (Some (account_in (x ∷ y ∷ pos kind ∷ z ∷ u ∷ v ∷ r)))
    by true q s t = refl
    by false true s t = refl
    by false false true t = refl
    by false false false true = refl
    by false false false false = refl

-- stresses stand past the kind
past_kind : (kind j : ℕ) (fs : List (List ℕ)) → kind < j → values_of (Some kind) j fs ≡ every_field signed_of fs
unfolding values_of every_field value_of
past_kind kind j [] h = refl
past_kind kind j (f ∷ fs) h = rw (ne_eqb j kind (λ e. omega arith), past_kind kind (suc j) fs (omega arith))

account_fields : (k : ℕ) (fs : List (List ℕ)) → list_any foreign fs ≡ false → eqb (length fs) (7 + k) ≡ true
    → account_by (every_field number_of (take 2 (drop 1 fs) ++ take 2 (drop 5 fs))) (every_field signed_of (get_or fs 4 [] ∷ drop 7 fs)) (kind_of (get_or fs 3 []))
    ≡ account_from (values_of (Some 2) 0 (drop 1 fs))
unfolding every_field values_of value_of
account_fields k (w ∷ a ∷ b ∷ c ∷ d ∷ e ∷ f ∷ fs) q h =
    rw (kind_ascii, number_signed a, number_signed b, number_signed e, number_signed f, past_kind 2 6 fs (omega arith))
    (account_values (signed_of a) (signed_of b) (kind_of c) (signed_of d) (signed_of e) (signed_of f) (every_field signed_of fs))
  where
    kind_ascii : foreign c ≡ false
    kind_ascii = (neither (foreign c) _ (neither (foreign b) _ (neither (foreign a) _ (neither (foreign w) _ q).1).1).1).0
account_fields k [] q h = absurd (let z = eqb-true 0 (7 + k) h in omega arith)
account_fields k (w ∷ []) q h = absurd (let z = eqb-true 1 (7 + k) h in omega arith)
account_fields k (w ∷ a ∷ []) q h = absurd (let z = eqb-true 2 (7 + k) h in omega arith)
account_fields k (w ∷ a ∷ b ∷ []) q h = absurd (let z = eqb-true 3 (7 + k) h in omega arith)
account_fields k (w ∷ a ∷ b ∷ c ∷ []) q h = absurd (let z = eqb-true 4 (7 + k) h in omega arith)
account_fields k (w ∷ a ∷ b ∷ c ∷ d ∷ []) q h = absurd (let z = eqb-true 5 (7 + k) h in omega arith)
account_fields k (w ∷ a ∷ b ∷ c ∷ d ∷ e ∷ []) q h = absurd (let z = eqb-true 6 (7 + k) h in omega arith)

pub account_row : (k n : ℕ) (s : List ℕ) → suc n ≡ 7 + k → line_read (account_of k) s ≡ account_from (line_row (bytes "acct") (Some 2) n s)
unfolding account_of row_after account_from bad_bytes
account_row k n s e =
    read_by (account_of k) (row_after (bytes "acct") (Some 2) n) account_from refl
    (λ l q. rw e (form_by (same (get_or (fields l) 0 []) (bytes "acct")) (eqb (length (fields l)) (7 + k)) _ _ account_from refl
    (account_fields k (fields l) (sym (any_split (ltb 127) tab refl l) ∙ (neither (ltb 512 (length l)) (foreign l) q).1)))) s
