-- Laws of `Put`: texts one after another, text that finds no room, and the report's texts a part more at a time.
-- Past the buffer's end nothing is stored wherever one starts, so the index one above its length stands for all of them.
use mathlib.Core.Path.{◌≡◌, refl, sym, ap, ◌∙◌}
use mathlib.Core.Bool.{Bool, true, false}
use mathlib.Core.List.{List, [], ◌∷◌, ◌++◌, flat_map, append-nil, append_assoc}
use Prim.Native.Nat.{ℕ, suc, ◌+◌, ◌-◌, ◌*◌, ◌≤◌, ◌<◌, min}
use native.Mathlib.Nat.{add-zero}
use native.Mathlib.Numerals.{add-one}
use native.Mathlib.Omega.{arith}
use lib.Dec.{leb}
use lib.ListN.{length, get_or, take, drop, set, length-append, length-set}
use lib.Seq.{sets, set_out, length-sets, drop-drop, length-take-le, take-suc, take_at}
use borrow.Author.Tests.{leb-true, leb-false}
use borrow.Rule.Slice.PartMut.{put_mid}
use Rattle.std.proofs.lemmas.List.{take-append-drop}
use Rattle.std.proofs.lemmas.List.Edits.{sets-eq}
use Rattle.numbers.proofs.Lists.{upto_more}
use Rattle.numbers.proofs.Rows.{flat_map_append}
use Rattle.methodology.specs.Text.{printed, rows}
use Rattle.report.specs.declared.Printer.{Printer}
use Rattle.report.specs.Put.{Put}
use Rattle.report.specs.Prints.{Prints}

-- ---- stored elements

sets_out : (d : List ℕ) (i : ℕ) (s : List ℕ) → length d ≤ i → sets d i s ≡ d
sets_out d i [] h = refl
sets_out d i (x ∷ s) h = sets_out (set d i x) (suc i) s (rw length-set (omega arith)) ∙ set_out d i x h

sets_append : (d : List ℕ) (i : ℕ) (s t : List ℕ) → sets d i (s ++ t) ≡ sets (sets d i s) (i + length s) t
sets_append d i [] t = rw add-zero
sets_append d i (x ∷ s) t = sets_append (set d i x) (suc i) s t ∙ ap (λ (n : ℕ). sets (sets d i (x ∷ s)) n t) (omega arith)

-- an index past the end may be any other
sets_past : (d : List ℕ) (i j : ℕ) (s : List ℕ) → j ≡ min i (length d + 1) → sets d j s ≡ sets d i s
sets_past d i j s e = by (leb (length d) i) refl
  where
    by : (t : Bool) → leb (length d) i ≡ t → sets d j s ≡ sets d i s
    by true q = let h = leb-true (length d) i q in sets_out d j s (omega arith) ∙ sym (sets_out d i s h)
    by false q = let h = leb-false (length d) i q in ap (λ (n : ℕ). sets d n s) (omega arith)

-- ---- texts

pub put_length : {d e : List ℕ} {at r : ℕ} {s : List ℕ} → Put d at s e r → length e ≡ length d
put_length {d} {e} {at} {r} {s} a = ap length a.bytes ∙ length-sets d at s

-- no text
put_none : (d : List ℕ) (at : ℕ) → at ≤ length d + 1 → Put d at [] d at
put_none d at h = record { bytes = refl; next = omega arith }

-- text that finds no room
pub put_out : (d : List ℕ) (at : ℕ) (s : List ℕ) → at ≤ length d + 1 → length d < at → Put d at s d at
put_out d at s h k = record { bytes = sym (sets_out d at s (omega arith)); next = omega arith }

-- text put over a part of the buffer: all of it, or what has room up to the buffer's end
over : (d s : List ℕ) (at : ℕ) → at + length s ≤ length d → sets d at s ≡ put_mid at (length s) d s
over d s at h = sets-eq s d at h ∙ rw (append_assoc, drop-drop)

pub put_whole : (d s t : List ℕ) (at k : ℕ) → t ≡ s → k ≡ length s → at + k ≤ length d → Put d at s (put_mid at k d t) (at + k)
put_whole d s t at k e n h = record { bytes = rw (e, n) (sym (over d s at (omega arith))); next = omega arith }

pub put_cut : (d s t : List ℕ) (at k : ℕ) → t ≡ take k s → k < length s → at + k ≡ length d → Put d at s (put_mid at k d t) (length d + 1)
put_cut d s t at k e n h =
    let few : length (take k s) ≡ k = length-take-le k s (omega arith) in
    let front = sets d at (take k s) in
    let full : length front ≤ at + length (take k s) = omega (arith, few, length-sets d at (take k s)) in
    let all : sets d at (take k s ++ drop k s) ≡ front =
    sets_append d at (take k s) (drop k s) ∙ sets_out front (at + length (take k s)) (drop k s) full in
    let done : sets d at s ≡ put_mid at k d t =
    (rw take-append-drop at all) ∙ over d (take k s) at (omega (arith, few)) ∙ rw (few, e) in
    record { bytes = sym done; next = omega arith }

-- a text, and another after it
pub put_then : {d e f : List ℕ} {at p r : ℕ} {s t : List ℕ} → Put d at s e p → Put e p t f r → Put d at (s ++ t) f r
put_then {d} {e} {f} {at} {p} {r} {s} {t} a b =
    let h : length e ≡ length d = put_length a in
    record {
      bytes =
          b.bytes ∙ sets_past e (at + length s) p t (a.next ∙ ap (λ (n : ℕ). min (at + length s) (n + 1)) (sym h))
          ∙ ap (λ (l : List ℕ). sets l (at + length s) t) a.bytes ∙ sym (sets_append d at s t);
      next = omega (arith, a.next, b.next, length-append s t);
    }

-- a text that found room is what the buffer holds up to the index after it
pub put_all : {d e : List ℕ} {r : ℕ} {s : List ℕ} → Put d 0 s e r → r ≤ length d → take r e ≡ s
put_all {d} {e} {r} {s} a h =
    let n : length s ≡ r = omega (arith, a.next) in
    ap (take r) (a.bytes ∙ sets-eq s d 0 (omega arith)) ∙ take_at s (drop (0 + length s) d) r n

-- ---- printers

pub prints_none : (p : Printer) → Prints p [] p
prints_none p = record { put = put_none p.out.now p.at p.within; same_buffer = refl }

pub prints_then : {p q r : Printer} {s t : List ℕ} → Prints p s q → Prints q t r → Prints p (s ++ t) r
prints_then a b = record { put = put_then a.put b.put; same_buffer = b.same_buffer ∙ a.same_buffer }

module _ {p q r : Printer} where
  -- a number of xs more
  pub prints_number_more : (g : ℕ → List ℕ) (xs : List ℕ) (i : ℕ) → i < length xs
      → Prints p (flat_map g (take i xs)) q → Prints q (g (get_or xs i 0)) r → Prints p (flat_map g (take (i + 1) xs)) r
  unfolding flat_map
  prints_number_more g xs i h a b = rw (add-one, take-suc xs i 0 h, flat_map_append, append-nil) (prints_then a b)

  -- the line of member m + 1 more
  pub prints_row_more : (word : List ℕ) (width m : ℕ) (figures : List ℕ)
      → Prints p (rows word width m figures) q
      → Prints q (printed word ((m + 1) ∷ take width (drop (width * m) figures))) r
      → Prints p (rows word width (m + 1) figures) r
  unfolding rows flat_map
  prints_row_more word width m figures a b =
      let z : m + 1 - 1 ≡ m = omega arith in
      rw (upto_more m, flat_map_append, append-nil, z) (prints_then a b)
