-- Bytes put into a part of the lent memory: they stand from where it begins. Assumes nothing.
use Rattle.std.specs.Prelude.{◌≡◌, List, [], ◌++◌, ℕ, ◌+◌, ◌-◌, ◌≤◌, length, take, drop}
use Rattle.std.proofs.Common.{ap, ap₂, ◌∙◌, append-nil, arith, length-drop, take_all, drop-drop}
use Rattle.std.proofs.Math.Seq.{drop-length}
use borrow.Rule.Slice.PartMut.{put_mid, post_of, Post-is}
use Rattle.report.specs.Put.{put_at}

module _ (out : List ℕ) (at : ℕ) (h : at ≤ length out) where
  part_length : length (drop at out) ≡ length out - at
  part_length = length-drop at out

  part : take (length out - at) (drop at out) ≡ drop at out
  part = take_all (length out - at) (drop at out) (omega (arith, part_length))

  pub part_room : at + 16 ≤ length out → 16 ≤ length (take (length out - at) (drop at out))
  part_room k = rw part (omega (arith, part_length))

  pub part-put : (bytes : List ℕ) {later : List ℕ} → later ≡ bytes ++ drop (length bytes) (take (length out - at) (drop at out)) → put_mid at (length out - at) out later ≡ put_at
      at bytes out
  part-put bytes e =
      let p : post_of at (length out - at) out ≡ [] = Post-is at (length out) out h ∙ drop-length out in
      ap₂ (λ (x y : List ℕ). take at out ++ (x ++ y)) (e ∙ ap (λ (x : List ℕ). bytes ++ drop (length bytes) x) part) p
      ∙ ap (λ (x : List ℕ). take at out ++ x) (append-nil (bytes ++ drop (length bytes) (drop at out)) ∙ ap (λ (x : List ℕ). bytes ++ x) (drop-drop (length bytes) at out))
