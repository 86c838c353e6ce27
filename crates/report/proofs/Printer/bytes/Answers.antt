-- `bytes` meets its contract: what is copied is all of the text, or as much as has room.
use mathlib.Core.Path.{◌≡◌, refl, ◌∙◌}
use Prim.Native.Nat.{◌+◌, ◌-◌}
use native.Mathlib.Omega.{arith}
use lib.Seq.{take_all}
use Rattle.report.proofs.Laws.{put_out, put_whole, put_cut}
use Rattle.report.proofs.Printer.bytes.Goals.{then-count-bytes, else-count-bytes}
use Rattle.report.proofs.Printer.bytes.Goals as goal

pub returns-then-room-self : goal.returns-then-room-self
returns-then-room-self c =
    let p = c.args.self.now in
    record { put = put_out p.out.now p.at c.args.bytes.now p.within c.if-room-self.true; same_buffer = refl }

pub returns : goal.returns
returns c =
    let p = c.args.self.now in
    let count = c.min-count.result in
    let copied = c.copy_from_slice.ensures.after in
    let part : p.at + count - p.at ≡ count = omega arith in
    record {
      put =
          elim c.if-count-bytes.branch [
            | then-count-bytes w ↦ rw (part, w.self-is) (put_cut _ _ _ p.at count copied w.if-count-bytes.true (omega arith))
            | else-count-bytes w ↦
                rw (part, w.self-is) (put_whole _ _ _ p.at count (copied ∙ take_all count c.args.bytes.now w.if-count-bytes.false) (omega arith) (omega arith))
          ];
      same_buffer = refl;
    }
