-- From one whole cell of the text to the next. Assumes nothing.
use mathlib.Core.Path.{◌≡◌, sym, ap, ◌∙◌}
use mathlib.Core.Bool.{true, false}
use mathlib.Core.List.{List, ◌∷◌}
use Prim.Native.Nat.{ℕ, ◌+◌, ◌<◌}
use lib.ListN.{length, drop, get_or}
use Rattle.walk.specs.declared.Spot.{Spot}
use Rattle.walk.specs.Walk.{after, whole_at, walk, Walks}
use Rattle.walk.specs.Laws.Walk.{walks-on, past-whole, past-other}

module _ {t : List ℕ} {i : ℕ} {s s' : Spot} {x : List Spot} (w : Walks t i s) (h : i < length t) (k : x ≡ walk s (drop i t)) (e : s' ≡ after s (get_or t i 0)) where
  on : Walks t (i + 1) s'
  on = rw e (walks-on w h)

  -- the byte at i names a whole cell
  pub next-whole : whole_at (drop i t) ≡ true → (x ≡ s' ∷ walk s' (drop (i + 1) t)) × Walks t (i + 1) s'
  next-whole f = (k ∙ past-whole w h f ∙ sym (ap (λ (y : Spot). y ∷ walk y (drop (i + 1) t)) e), on)

  -- it does not
  pub next-other : whole_at (drop i t) ≡ false → (x ≡ walk s' (drop (i + 1) t)) × Walks t (i + 1) s'
  next-other f = (k ∙ past-other w h f ∙ sym (ap (λ (y : Spot). walk y (drop (i + 1) t)) e), on)
