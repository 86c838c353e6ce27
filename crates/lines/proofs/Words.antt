-- A line is read in one pass: its word, then its values up to the LF. The word is the part up to the next tab, if a tab ends it.
-- By the three ways in which a field ends; each law of the last part is one exit of the reader.
use mathlib.Core.Path.{◌≡◌, refl, sym, ap, ◌∙◌}
use mathlib.Core.Bool.{Bool, true, false, not, ◌&&◌, ◌||◌, cond, true≢false}
use mathlib.Core.List.{List, [], ◌∷◌}
use Rattle.std.specs.Prelude.{Option, None, Some}
use Prim.Native.Nat.{ℕ, zero, suc, ◌+◌, ◌-◌, ◌≤◌, ◌<◌}
use native.Mathlib.Omega.{arith}
use lib.Dec.{eqb, ltb}
use lib.IntN.{ℤ}
use lib.ListN.{length, get_or, drop, length-drop}
use lib.Seq.{length-take-le}
use borrow.Author.Tests.{eq-eqb, ne_eqb, lt-ltb, le-ltb, ltb-false, ltb-true}
use Rattle.std.specs.List.{list_any}
use Rattle.std.proofs.lemmas.List.Sums.{prefix_len-le-length}
use Rattle.numbers.proofs.Tests.{neither}
use Rattle.numbers.proofs.Lists.{mem_at, at_any, any_false, none_any}
use Rattle.methodology.specs.Refusals.{outside}
use Rattle.methodology.specs.Text.{LF, tab, same, fields, bad_bytes}
use Rattle.methodology.specs.Lines.{index_of, has, before, after, line_read}
use Rattle.methodology.proofs.Splits.{split_first, same_eq}
use Rattle.fields.specs.Fields.{size, front, past, row_at, past_row}
use Rattle.lines.specs.Forms.{not_letters, values_of, row_after, line_row}
use Rattle.lines.proofs.Ends.{line_fields, Tab, Last, Ends, at_tab, at_lf, nowhere, ends}
use Rattle.lines.proofs.RowOfLine.{eqb_suc, row_line, after_tab, past_line, row_lined}
use Rattle.lines.proofs.Ascii.{foreign, any_split, values_ascii}

same_refl : (s : List ℕ) → same s s ≡ true
unfolding same
same_refl [] = refl
same_refl (x ∷ s) = rw (eq-eqb x x refl) (same_refl s)

-- an index at which something but 0 stands is inside
inside : (s : List ℕ) (i x : ℕ) → get_or s i 0 ≡ x → (x ≡ 0 → ⊥) → i < length s
inside [] i x e h = absurd (h (sym e))
inside (y ∷ s) zero x e h = omega arith
inside (y ∷ s) (suc i) x e h = let k = inside s i x e h in omega arith

none_either : (b : Bool) → ◌≡◌ {A = Option (List ℤ)} (cond b None None) None
none_either true = refl
none_either false = refl

-- ---- letters

module _ (word : List ℕ) (letters : not_letters word ≡ false) where
  letter : (x : ℕ) → outside 97 122 x ≡ false → (97 ≤ x) × (x ≤ 122)
  letter x e = let (h, k) = neither (ltb x 97) (ltb 122 x) e in (ltb-false x 97 h, ltb-false 122 x k)

  no_lf : (i : ℕ) → get_or word i 0 ≡ LF → ⊥
  no_lf = at_any (λ x. x ≡ LF → ⊥) word 0 (λ e. omega arith) (λ i h e. let k = letter (get_or word i 0) (any_false (outside 97 122) letters (mem_at word 0 h)) in let l = k.0 in omega arith)

  ascii : foreign word ≡ false
  ascii = none_any (ltb 127) word (λ x m. let k = letter x (any_false (outside 97 122) letters m) in le-ltb 127 x (let l = k.1 in omega arith))

  -- ---- the line at the front of a text

  module _ (s : List ℕ) where
    -- the part up to the next tab
    abbrev first : List ℕ
    first = get_or (fields s) 0 []

    first_is : first ≡ before tab s
    first_is = ap (λ (l : List (List ℕ)). get_or l 0 []) (split_first tab s)

    no_line : (kind : Option ℕ) (n : ℕ) → has LF s ≡ false → line_row word kind n s ≡ None
    unfolding line_read
    no_line kind n e = rw e

    other_form : (kind : Option ℕ) (n : ℕ) → row_after word kind n (before LF s) ≡ None → line_row word kind n s ≡ None
    unfolding line_read
    other_form kind n e = rw e (none_either (has LF s && not (bad_bytes (before LF s))))

    other_case : (kind : Option ℕ) (n : ℕ) → 0 < n → same first word ≡ false → Ends s → line_row word kind n s ≡ None
    unfolding row_after
    other_case kind n h e (at_tab t) =
        let k : same (front s) word ≡ false = ap (λ (l : List ℕ). same l word) (sym t.word_is ∙ sym first_is) ∙ e in
        other_form kind n (rw (t.parts, k))
    other_case kind n h e (at_lf t) = other_form kind n (rw (t.parts, ne_eqb 1 (suc n) (λ z. omega arith)) (by (same (front s) word)))
      where
        by : (b : Bool) → ◌≡◌ {A = Option (List ℤ)} (cond (b && false) (values_of kind 0 []) None) None
        by true = refl
        by false = refl
    other_case kind n h e (nowhere t) = no_line kind n t.lined

    pub other_word : (kind : Option ℕ) (n : ℕ) → 0 < n → same first word ≡ false → line_row word kind n s ≡ None
    other_word kind n h e = other_case kind n h e (ends s)

    module _ (e : same first word ≡ true) where
      word_is : before tab s ≡ word
      word_is = sym first_is ∙ same_eq first word e

      not_last : Last s → ⊥
      not_last t = no_lf (size s) (ap (λ (l : List ℕ). get_or l (size s) 0) (sym word_is) ∙ t.word_is)

      front_is : Tab s → front s ≡ word
      front_is t = sym t.word_is ∙ word_is

      size_is : Tab s → size s ≡ length word
      size_is t = sym (length-take-le (size s) s (prefix_len-le-length _ s)) ∙ ap length (front_is t)

      short_case : (kind : Option ℕ) (n : ℕ) → length s ≤ length word → Ends s → line_row word kind n s ≡ None
      short_case kind n h (at_tab t) = absurd (let k = size_is t in let l = inside s (size s) tab t.ends (λ z. omega arith) in omega arith)
      short_case kind n h (at_lf t) = absurd (not_last t)
      short_case kind n h (nowhere t) = no_line kind n t.lined

      pub no_room : (kind : Option ℕ) (n : ℕ) → length s ≤ length word → line_row word kind n s ≡ None
      no_room kind n h = short_case kind n h (ends s)

      module _ (h : length word < length s) where
        tab_case : Ends s → Tab s
        tab_case (at_tab t) = t
        tab_case (at_lf t) = absurd (not_last t)
        tab_case (nowhere t) = absurd (let k : length s ≡ length word = ap length (sym t.word_is ∙ word_is) in omega arith)

        is_tab : Tab s
        is_tab = tab_case (ends s)

        -- what follows the word
        abbrev rest : List ℕ
        rest = drop (length word + 1) s

        rest_is : past s ≡ rest
        rest_is = ap (λ (m : ℕ). drop (m + 1) s) (size_is is_tab)

        -- a line that is not ASCII has no row
        foreign_none : (kind : Option ℕ) → foreign (before LF s) ≡ true → values_of kind 0 (line_fields (past s)) ≡ None
        foreign_none kind f = by (values_of kind 0 (line_fields (past s))) refl
          where
            in_fields : foreign (before LF s) ≡ list_any foreign (line_fields (past s))
            in_fields = any_split (ltb 127) tab refl (before LF s) ∙ ap (list_any foreign) is_tab.parts ∙ rw (front_is is_tab, ascii)

            by : (o : Option (List ℤ)) → values_of kind 0 (line_fields (past s)) ≡ o → o ≡ None
            by None q = refl
            by (Some l) q = absurd (true≢false (sym f ∙ in_fields ∙ values_ascii kind 0 (line_fields (past s)) l q))

        length_is : length (before LF s) ≡ index_of LF s
        length_is = length-take-le (index_of LF s) s (prefix_len-le-length _ s)

        -- the values of what follows the word, if there are n fields
        abbrev values : (kind : Option ℕ) (n : ℕ) → Option (List ℤ)
        values kind n = cond (eqb (length (line_fields (past s))) n) (values_of kind 0 (line_fields (past s))) None

        values_are : (kind : Option ℕ) (n : ℕ) → row_after word kind n (before LF s) ≡ values kind n
        unfolding row_after
        values_are kind n = rw (is_tab.parts, front_is is_tab, same_refl word, eqb_suc (length (line_fields (past s))) n)

        by_values : (kind : Option ℕ) (n : ℕ) → line_row word kind n s ≡ cond (ltb 512 (index_of LF s)) None (cond (has LF s) (values kind n) None)
        unfolding line_read bad_bytes
        by_values kind n = rw (values_are kind n, length_is) (by (has LF s) (ltb 512 (index_of LF s)) (foreign (before LF s)) refl)
          where
            by : (h b f : Bool) → foreign (before LF s) ≡ f → cond (h && not (b || f)) (values kind n) None ≡ cond b None (cond h (values kind n) None)
            by false true f q = refl
            by false false f q = refl
            by true true f q = refl
            by true false false q = refl
            by true false true q = rw (foreign_none kind q) (sym (none_either (eqb (length (line_fields (past s))) n)))

        pub row_after_lem : (kind : Option ℕ) (n : ℕ) → 0 < n → line_row word kind n s ≡ cond (ltb 512 (index_of LF s)) None (row_at kind 0 n rest)
        row_after_lem kind n due =
            by_values kind n
            ∙ ap (λ (o : Option (List ℤ)). cond (ltb 512 (index_of LF s)) None o) (ap (λ (b : Bool). cond b (values kind n) None) is_tab.lined ∙ sym (row_line kind 0 n (past s) due) ∙ ap (row_at kind 0 n) rest_is)

        -- a reader of what follows the word, and what it answers
        module _ (kind : Option ℕ) (n : ℕ) (due : 0 < n) (u : List ℕ) (same_rest : u ≡ rest) where
          row_is : line_row word kind n s ≡ cond (ltb 512 (index_of LF s)) None (row_at kind 0 n u)
          row_is = row_after_lem kind n due ∙ ap (λ (x : List ℕ). cond (ltb 512 (index_of LF s)) None (row_at kind 0 n x)) (sym same_rest)

          pub no_row : row_at kind 0 n u ≡ None → line_row word kind n s ≡ None
          no_row r = row_is ∙ rw r (none_either (ltb 512 (index_of LF s)))

          module _ (l : List ℤ) (r : row_at kind 0 n u ≡ Some l) where
            past_is : past s ≡ u
            past_is = rest_is ∙ sym same_rest

            pub line_past : past_row n u ≡ after LF s
            line_past = past_line kind 0 n u l due r ∙ ap (after LF) (sym past_is) ∙ after_tab s is_tab

            -- the bytes with the LF
            pub line_length : length s ≡ index_of LF s + 1 + length (past_row n u)
            line_length =
                let lined : has LF s ≡ true = is_tab.lined ∙ ap (has LF) past_is ∙ row_lined kind 0 n u l due r in
                omega (arith, ap length line_past, length-drop (suc (index_of LF s)) s, ltb-true (index_of LF s) (length s) lined)

            pub line_long : 513 < length s - length (past_row n u) → line_row word kind n s ≡ None
            line_long h = row_is ∙ rw (lt-ltb 512 (index_of LF s) (omega (arith, line_length)))

            pub line_good : length s - length (past_row n u) ≤ 513 → line_row word kind n s ≡ Some l
            line_good h = row_is ∙ rw (le-ltb 512 (index_of LF s) (omega (arith, line_length))) r
