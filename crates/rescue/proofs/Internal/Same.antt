-- A text that the reader accepts is its own proper text, and nothing is changed in it. Assumes nothing.
use Rattle.std.specs.Prelude.{◌≡◌, refl, List, [], ◌++◌, ℕ, ◌≤◌, ◌<◌, length, drop, get_or, Err, Ok, Result}
use Rattle.std.proofs.Common.{sym, ap, ap₂, ◌∙◌, arith}
use Rattle.reading.specs.declared.Level.TheVariants.{Faces}
use Rattle.reading.specs.declared.Profile.{Profile}
use Rattle.reading.specs.declared.Profile.TheVariants.{Full, Handheld}
use Rattle.reading.specs.Reading.{Nodes}
use Rattle.reading.specs.Text.{ReadsAs}
use Rattle.reading.specs.TextReading.{nodes_of, profile_of, north_of, south_of}
use Rattle.reading.proofs.Laws.Loose.{good-loose}
use Rattle.reader.specs.Check.{checked_of}
use Rattle.reader.specs.Laws.Answer.{text-checked}
use Rattle.reader.specs.Laws.Demand.{accepted-reads}
use Rattle.loose.specs.LooseText.{LooseAs}
use Rattle.loose.specs.LooseScan.{loose_nodes}
use Rattle.loose.specs.Look.{loose_north, loose_south, IsLoose, loose_refusal}
use Rattle.loose.proofs.Laws.Look.{loose-own, loose-read}
use Rattle.proper.specs.Proper.{rescued, proper_of}
use Rattle.proper.specs.Changes.{changes}
use Rattle.proper.proofs.Laws.Unchanged.{unchanged, proper-empty}
use Rattle.rescue.specs.Rescue.{flat, changes_of, RescueIs}
use Rattle.rescue.specs.Internal.Marks.{changes_in}
use Rattle.rescue.specs.Internal.Give.{Gives}
use Rattle.rescue.proofs.Internal.Give.{gives-no-text, gives_both}
use Rattle.rescue.specs.Internal.Same.{Same, GivesSame}

-- read as version 1, since its heading is of version 1
read_same : (t : List ℕ) → IsLoose t → (p : Profile) (n s : ℕ) (ns : Nodes) → ReadsAs p n s t ns → Same t
unfolding proper_of changes_of
read_same t i Full n s ns r =
    let l : LooseAs n s t ns =
    record { north = r.north; south = r.south; loose = good-loose ns Faces 15 15 0 (omega arith) r.body.good; all = r.body.all } in
    let q = loose-read l in (
      ap₂ (λ (x y : ℕ). rescued x y (loose_nodes (drop 7 t))) q.0 q.1 ∙ ap (rescued n s) q.2 ∙ unchanged r,
      ap changes q.2 ∙ proper-empty ns r.body.good,
    )
read_same t i (Handheld d) n s ns r =
    let e : get_or t 4 0 ≡ 1 = ap (λ (x : List ℕ). get_or x 4 0) i.all in
    let f : get_or t 4 0 ≡ 2 = ap (λ (x : List ℕ). get_or x 4 0) r.body.all in
    absurd (omega arith)

pub text_same : {p : Profile} {n s c z b : ℕ} (t : List ℕ) → loose_refusal t ≡ 0 → Ok (record { profile = p; arrangement = record { north = n; south = s }; cells = c; size = z; body = b }) ≡ checked_of t → Same t
text_same t e f =
    read_same t (loose-own t e) (profile_of t) (north_of t) (south_of t) (nodes_of t) (accepted-reads t (text-checked t f).allowed)

-- ---- given

pub same-no-room : {t out : List ℕ} → length out < length t → GivesSame t out out (Err (record { refusal = 8; place = 0 }))
unfolding changes_in
same-no-room {t} {out} h =
    record { is = λ list e s. let g : Gives t [] out out list list (Err (record { refusal = 8; place = 0 })) = gives-no-text {n = 0} refl h in g.is t e (sym s.0) (sym s.1) }

pub same-given : {t out out' : List ℕ} → length t ≤ length out → out' ≡ t ++ drop (length t) out → GivesSame t out out' (Ok (record { length = length t; changes = 0 }))
unfolding changes_in flat
same-given {t} {out} {out'} h x =
    record {
      is =
          λ list e s.
          let g : Gives t [] out out' list list (Ok (record { length = length t; changes = 0 })) = gives_both {n = 0} refl h (omega arith) x refl in
          g.is t e (sym s.0) (sym s.1);
    }
