-- `read_all` meets its contract: the bytes read so far stand in the buffer, and are those that the reader has given.
use Rattle.std.proofs.Common.{◌≡◌, ℕ, ◌+◌, ◌≤◌, List, ◌++◌, length, take, rules, sym, ◌∙◌, subst, le_refl, length-take-le, take-add, drop_at}
use lib.Seq.{take-append-le}
use borrow.Rule.Slice.PartMut.{put_mid, post_of}
use Rattle.std.proofs.lemmas.Slice.{take-put_mid_below}
use Rattle.std.specs.Io.KnownBytes.{Consumes}
use Rattle.std.proofs.KnownBytes.{Consumes-trans}
use Rattle.program.proofs.read_all.Goals as goal

-- n bytes were read into the part from index a on
one_more : (a k n : ℕ) (text part : List ℕ) → a ≤ length text → n ≤ length part → take (a + n) (put_mid a k text part) ≡ take a text ++ take n part
one_more a k n text part h l =
    let rest = post_of a k text in
    take-add a n (put_mid a k text part)
    ∙ rw (take-put_mid_below a k text part a (le_refl a) h, drop_at (take a text) (part ++ rest) a (length-take-le a text h), take-append-le n part rest l)

pub loop-done-preserved : goal.loop-done-preserved
loop-done-preserved g c =
    let before = c.loop-done.invariant in
    let read = c.in-Ok.ensures in
    record {
      within = search rules;
      given = subst (Consumes _ _) (sym (one_more _ _ _ _ _ before.within read.bound.0)) (Consumes-trans _ _ _ _ _ before.given read.bytes.0);
    }
