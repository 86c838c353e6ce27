-- The report of an input of which 2,162,688 bytes are read or more, if it has as many, put into a buffer of 147,456: no later byte can change
-- it, and it fits.
use mathlib.Core.List.{List}
use mathlib.Core.Path.{◌≡◌, sym, ap, ◌∙◌}
use Prim.Native.Nat.{ℕ, ◌≤◌}
use native.Mathlib.Omega.{arith}
use lib.ListN.{length, take}
use Rattle.methodology.specs.Text.{report_of}
use Rattle.methodology.proofs.Cut.{cut}
use Rattle.methodology.proofs.Short.{short}
use Rattle.report.specs.Put.{Put}
use Rattle.report.proofs.Laws.{put_length, put_all}

-- n bytes of the text were read
module _ (text out out' : List ℕ) (n r : ℕ) (room : length out ≡ 147456) (w : Put out 0 (report_of (take n text)) out' r) where
  fits : r ≤ length out
  fits = omega (arith, w.next, short (take n text))

  pub report_fits : r ≤ length out'
  report_fits = omega (arith, fits, put_length w)

  pub whole : (most : ℕ) → 2162688 ≤ most → (input : List ℕ) → take most input ≡ take n text → take r out' ≡ report_of input
  whole most enough input e = put_all w fits ∙ ap report_of (sym e) ∙ cut most input enough
