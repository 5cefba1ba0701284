-- What is held of the names on the lines of some bytes; and where a line has no room, 13 is right whatever comes. Assumes nothing.
use Rattle.std.specs.Prelude.{◌≡◌, refl, Bool, true, false, not, List, [], ◌∷◌, ◌++◌, ℕ, zero, suc, ◌<◌, leb, ltb, length, drop}
use Rattle.std.proofs.Common.{sym, ap, ◌∙◌, subst, arith, leb-true}
use Rattle.logic.specs.Refusal.{refuse, ◌otherwise◌}
use Rattle.logic.specs.Laws.Refusal.{both}
use Rattle.cell.specs.declared.Arrangement.{Arrangement}
use Rattle.cell.specs.Cell.{IsArrangement}
use Rattle.decimal.specs.Decimal.{trimmed}
use Rattle.name.specs.Name.{name_refusal, name_code, first_letter, all_digits}
use Rattle.name.specs.Laws.Name.{accepted, name-code-is}
use Rattle.lines.specs.Lines.{lines_of}
use Rattle.lines.specs.Fold.{after, OfBytes}
use Rattle.reading.specs.declared.Profile.{Profile}
use Rattle.writing.specs.Write.{codes_refusal, text_of}
use Rattle.gathering.specs.Gather.{gathered}
use Rattle.gathering.proofs.Laws.Gather.{Holds, holds-none, holds_more}
use Rattle.gathering.proofs.Laws.Long.{too_long}
use Rattle.coverage.specs.declared.NamesRead.TheVariants as read_as
use Rattle.coverage.specs.Names.{Names, read, stopped, line_refusal, named_or, with_name, AllTaken}
use Rattle.coverage.specs.Laws.Asked.{named_in}

-- whatever further codes come, the text of a good list that begins with these has more than 65,536 bytes
abbrev pub TooLong : Arrangement → List ℕ → Type 0
TooLong a codes = (more : List ℕ) (f : Profile) → codes_refusal a (codes ++ more) ≡ 0 → 65536 < length (text_of f a (codes ++ more))

-- of lines taken from a state on: a line behind the codes of those before it, whose name is one, and these codes are too many
pub record TooMany (a : Arrangement) (room : ℕ) (from : Names) (lines : List (List ℕ)) : Type 0 where
  pub before : List (List ℕ)
  pub line : List ℕ
  pub behind : List (List ℕ)
  pub all : lines ≡ before ++ (line ∷ behind)
  pub codes : List ℕ
  pub held : List ℕ
  pub came : after (with_name a room) from before ≡ read codes held
  pub named : name_refusal (trimmed line) ≡ 0
  pub long : TooLong a codes

-- the refusal of the line that stopped the reading
abbrev refusal_in : Names → ℕ
refusal_in (read codes held) = 0
refusal_in (stopped n r) = r

-- ---- a name's own refusal is not 13

not-chain : (a b c : Bool) → (refuse a 2 otherwise refuse b 1 otherwise refuse c 3) ≡ 13 → ⊥
unfolding ◌otherwise◌
not-chain true b c e = omega arith
not-chain false true c e = omega arith
not-chain false false true e = omega arith
not-chain false false false e = omega arith

not-thirteen : (name : List ℕ) → name_refusal name ≡ 13 → ⊥
unfolding name_refusal
not-thirteen name e = not-chain (ltb 16 (length name)) (not (first_letter name)) (not (all_digits (drop 1 name))) e

no_room : (x : ℕ) (b : Bool) → (x ≡ 13 → ⊥) → (x otherwise refuse b 13) ≡ 13 → (x ≡ 0) × (b ≡ true)
unfolding ◌otherwise◌
no_room zero true f e = (refl, refl)
no_room zero false f e = absurd (omega arith)
no_room (suc x) b f e = absurd (f e)

module _ (a : Arrangement) (g : IsArrangement a) (room : ℕ) where
  -- ---- what is held of all names

  -- one more
  holds-line : (codes held line : List ℕ) → line_refusal room held line ≡ 0 → Holds a codes held →
      Holds a (codes ++ (name_code a (trimmed line) ∷ [])) (gathered a (name_code a (trimmed line)) held)
  holds-line codes held line e h =
      let k = (both (name_refusal (trimmed line)) _ e).0 in
      holds_more g (name_code a (trimmed line)) codes held (name-code-is (trimmed line) g (accepted (trimmed line) k)) (named_in a g (trimmed line) k) h

  abbrev Sound : Names → Type 0
  Sound (read codes held) = Holds a codes held
  Sound (stopped n r) = Unit {0}

  sound-name : (s : Names) (line : List ℕ) → Sound s → Sound (with_name a room s line)
  sound-name (stopped n r) line h = tt
  sound-name (read codes held) line h = go (line_refusal room held line) refl
    where
      go : (q : ℕ) → line_refusal room held line ≡ q → Sound (named_or a q codes held (name_code a (trimmed line)))
      go (suc q) e = tt
      go zero e = holds-line codes held line e h

  sound-all : (s : Names) (lines : List (List ℕ)) → Sound s → Sound (after (with_name a room) s lines)
  sound-all s [] h = h
  sound-all s (line ∷ lines) h = sound-all (with_name a room s line) lines (sound-name s line h)

  pub names-held : (codes held : List ℕ) → OfBytes (with_name a room) (read [] []) (read codes held) → Holds a codes held
  names-held codes held (bytes, e) = subst Sound (sym e) (sound-all (read [] []) (lines_of bytes) (holds-none a))

  -- ---- no room

  module _ (l : 65649 < room) where
    stays-stopped : (n r : ℕ) (lines : List (List ℕ)) → after (with_name a room) (stopped n r) lines ≡ stopped n r
    stays-stopped n r [] = refl
    stays-stopped n r (line ∷ lines) = stays-stopped n r lines

    stops-full :
        (codes held : List ℕ) → Holds a codes held → (line : List ℕ) (lines : List (List ℕ)) → line_refusal room held line ≡ 13 →
        TooMany a room (read codes held) (line ∷ lines)
    stops-full codes held h line lines e =
        let k = no_room (name_refusal (trimmed line)) (leb room (length held)) (not-thirteen (trimmed line)) e in
        record {
          before = [];
          line = line;
          behind = lines;
          all = refl;
          codes = codes;
          held = held;
          came = refl;
          named = k.0;
          long = λ more f z. too_long h more z f (omega (arith, l, leb-true room (length held) k.1));
        }

    full-later :
        (codes held line : List ℕ) (lines : List (List ℕ)) → line_refusal room held line ≡ 0 →
        TooMany a room (read (codes ++ (name_code a (trimmed line) ∷ [])) (gathered a (name_code a (trimmed line)) held)) lines → TooMany a room (read codes held) (line ∷ lines)
    full-later codes held line lines e r =
        record {
          before = line ∷ r.before;
          line = r.line;
          behind = r.behind;
          all = ap (λ (x : List (List ℕ)). line ∷ x) r.all;
          codes = r.codes;
          held = r.held;
          came = ap (λ (q : ℕ). after (with_name a room) (named_or a q codes held (name_code a (trimmed line))) r.before) e ∙ r.came;
          named = r.named;
          long = r.long;
        }

    full-lines :
        (codes held : List ℕ) → Holds a codes held → (n : ℕ) (lines : List (List ℕ)) → stopped n 13 ≡ after (with_name a room) (read codes held) lines →
        TooMany a room (read codes held) lines
    full-lines codes held h n [] e = let z : ◌≡◌ {A = ℕ} 13 0 = ap refusal_in e in absurd (omega arith)
    full-lines codes held h n (line ∷ lines) e =
        go (line_refusal room held line) refl e (λ k. full-lines (codes ++ (name_code a (trimmed line) ∷ [])) (gathered a (name_code a (trimmed line)) held) k n lines)
      where
        go :
            (q : ℕ) → line_refusal room held line ≡ q → stopped n 13 ≡ after (with_name a room) (named_or a q codes held (name_code a (trimmed line))) lines →
            (Holds a (codes ++ (name_code a (trimmed line) ∷ [])) (gathered a (name_code a (trimmed line)) held) →
            stopped n 13 ≡ after (with_name a room) (read (codes ++ (name_code a (trimmed line) ∷ [])) (gathered a (name_code a (trimmed line)) held)) lines →
            TooMany a room (read (codes ++ (name_code a (trimmed line) ∷ [])) (gathered a (name_code a (trimmed line)) held)) lines) →
            TooMany a room (read codes held) (line ∷ lines)
        go zero i x f = full-later codes held line lines i (f (holds-line codes held line i h) x)
        go (suc q) i x f = stops-full codes held h line lines (i ∙ sym (ap refusal_in (x ∙ stays-stopped (suc (length codes)) (suc q) lines)))

    -- where a line stops the reading with 13, the text of every good list that begins with the codes before it is too long
    pub thirteen-right : (codes : List ℕ) → AllTaken a room codes (read_as.Stopped 13) → (bytes : List ℕ) × TooMany a room (read [] []) (lines_of bytes)
    thirteen-right codes h = (h.1.0, full-lines [] [] (holds-none a) h.0 (lines_of h.1.0) h.1.1)
