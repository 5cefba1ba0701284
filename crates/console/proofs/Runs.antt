-- One run of bytes behind another, in front of a room. Assumes nothing.
use mathlib.Core.Path.{◌≡◌, refl, sym, ap, ap₂, ◌∙◌}
use mathlib.Core.List.{List, ◌++◌, append_assoc}
use Prim.Native.Nat.{ℕ, ◌+◌}
use native.Mathlib.Omega.{arith}
use lib.ListN.{length, take, drop, length-append}
use lib.Seq.{take_at}
use borrow.Rule.Slice.PartMut.{put_mid, post_of}

-- path and then part
pub put_both :
    (path part room first second : List ℕ) (n m k : ℕ) → n ≡ length path → m ≡ length part → first ≡ path ++ drop (length path) room →
    (rest : List ℕ) → second ≡ part ++ rest → take (n + m) (put_mid n k first second) ≡ path ++ part
put_both path part room first second n m k a b f rest g =
    let x : take n first ≡ path = ap₂ take a f ∙ take_at path (drop (length path) room) (length path) refl in
    ap (take (n + m))
    (ap₂ (λ (l r : List ℕ). l ++ (r ++ post_of n k first)) x g
    ∙ ap (λ (l : List ℕ). path ++ l) (append_assoc part rest (post_of n k first))
    ∙ sym (append_assoc path part (rest ++ post_of n k first)))
    ∙ take_at (path ++ part) (rest ++ post_of n k first) (n + m) (omega (arith, length-append path part))
