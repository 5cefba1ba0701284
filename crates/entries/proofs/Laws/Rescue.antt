-- The rescue over what the entry answers (02, W-206): refusals, the proper text, and the list of what was changed. Assumes nothing.
use Rattle.std.specs.Prelude.{◌≡◌, ◌↔◌, ◌⊎◌, Bool, true, false, ◌||◌, cond, take, drop, get_or, ltb}
use Rattle.std.proofs.Math.Path.{refl, ap, subst}
use Rattle.std.proofs.Common.{sym, ap₂, ◌∙◌, inl, inr, ⊎_elim, arith, length-append, ne_eqb, le-ltb}
use mathlib.Core.List.{List, [], ◌∷◌}
use Prim.Native.Nat.{ℕ, zero, suc, ◌+◌, ◌*◌, ◌≤◌, ◌<◌}
use Rattle.std.proofs.Math.ListN.{length, get_or-append}
use Rattle.std.proofs.Math.Seq.{take-append_seam, drop-append_seam}
use Rattle.logic.specs.Lent.{in_front}
use Rattle.logic.specs.Lists.{Mem}
use Rattle.logic.specs.Refusal.{refuse, ◌otherwise◌, given}
use Rattle.logic.specs.Laws.Refusal.{passes, both}
use Rattle.reading.specs.declared.Level.TheVariants.{Faces}
use Rattle.reading.specs.declared.Profile.TheVariants.{Full}
use Rattle.reading.specs.Reading.{Nodes, Good, render, names}
use Rattle.reading.specs.Prefix.{Name}
use Rattle.reading.specs.Ground.{whole_cells, SameGround, Covers}
use Rattle.reading.specs.Fewest.{FewestOf}
use Rattle.reading.specs.Text.{heading, ReadsAs}
use Rattle.reading.specs.TextReading.{nodes_of}
use Rattle.reading.proofs.Laws.TextReading.{read-nodes}
use Rattle.reader.specs.Check.{text_refusal, checked_of}
use Rattle.reader.specs.Laws.Check.{accepted-exactly}
use Rattle.loose.specs.LooseText.{LooseText, LooseLongest, OtherThanOne}
use Rattle.loose.specs.LooseScan.{loose_nodes, loose_place}
use Rattle.loose.specs.Look.{loose_north, loose_south, IsLoose, not_one, is_loose, loose_refusal, place_with}
use Rattle.loose.proofs.Laws.Look.{is-loose, loose-text, version-bytes, bytes-version, loose-own, loose-short}
use Rattle.loose.proofs.Laws.Place.{loose-place}
use Rattle.proper.specs.Proper.{answer, rescued, proper_of}
use Rattle.proper.specs.Changes.{Item, Change, items, changes}
use Rattle.proper.proofs.Laws.Beside.{SideBySide, told-beside}
use Rattle.proper.proofs.Laws.Bracket.{told-3}
use Rattle.proper.proofs.Laws.Bytes.{InBody, InList, item-stands, item-whole, byte-item}
use Rattle.proper.proofs.Laws.Each.{each-4}
use Rattle.proper.proofs.Laws.Few.{changes-few}
use Rattle.proper.proofs.Laws.Given.{at}
use Rattle.proper.proofs.Laws.Told.{NamedEarlier, InLarger, FirstFor, Beside, told-1, told-2, told-4}
use Rattle.proper.proofs.Laws.Text.{short-enough}
use Rattle.proper.proofs.Laws.Order.{InOrder, changes-order, kinds-are}
use Rattle.proper.proofs.Laws.Proper.{rescued-reads, rescued-ground, rescued-fewest, rescued-short, proper-heading}
use Rattle.proper.proofs.Laws.Unchanged.{exactly, unchanged}
use Rattle.rescue.specs.Rescue.{flat, changes_of, rescue_refusal, told}
use Rattle.rescue.specs.Laws.Flat.{flat-length, flat-at}
use Rattle.rescue.proofs.Laws.Room.{room-enough}
use Rattle.entries.specs.declared.RescueAnswer.{RescueAnswer}
use Rattle.entries.specs.Order.{order, numbers, in_order, FirstOf, Applies}
use Rattle.entries.specs.Rescue.{rescue_numbers, rescue_tests}
use Rattle.entries.specs.Texts.{check_numbers}
use Rattle.entries.proofs.Laws.Order.{Decides, last, then, lt-decides, or-decides, not-decides, given-exactly}
use Rattle.entries.proofs.Laws.First.{check-refusal}
use Rattle.logic.specs.Laws.Bools.{clash}

-- ---- the order of refusals

version : (t : List ℕ) → Decides (not_one t) (OtherThanOne t)
version t = record { holds = version-bytes t; fails = λ e v. clash (sym (bytes-version t v) ∙ e) }

looser : (t : List ℕ) → Decides (is_loose t) (LooseText t)
looser t = record { holds = λ e. (loose_north t, loose_south t, loose_nodes (drop 7 t), is-loose t e); fails = λ e a. clash (sym (loose-text a.3) ∙ e) }

list-decides : (t : List ℕ) (room : ℕ) → Decides (ltb room (length (flat (changes_of t)))) (room < 2 * length (changes_of t))
list-decides t room =
    let d = lt-decides room (length (flat (changes_of t))) in
    record { holds = λ e. omega (arith, d.holds e, flat-length (changes_of t)); fails = λ e h. d.fails e (omega (arith, flat-length (changes_of t))) }

module _ (t out list : List ℕ) where
  abbrev r : ℕ
  r = rescue_refusal t (length out) (length list)

  -- what `jgv_coverage_rescue` answers, and what both lent memories hold then
  abbrev pub rescue_answer : RescueAnswer
  rescue_answer = rescue_numbers (told r t)

  abbrev pub text_memory : List ℕ
  text_memory = given r (in_front (proper_of t) out) out

  abbrev pub list_memory : List ℕ
  list_memory = given r (in_front (flat (changes_of t)) list) list

  rescue-refusal : rescue_answer.refusal ≡ r
  unfolding told
  rescue-refusal = go r
    where
      go : (q : ℕ) → (rescue_numbers (told q t)).refusal ≡ q
      go zero = refl
      go (suc q) = refl

  -- 13, 10, 9, 8: the first whose condition holds
  pub rescue-first : FirstOf (rescue_tests t (length out) (length list)) rescue_answer.refusal
  unfolding rescue_refusal loose_refusal
  rescue-first =
      subst (FirstOf (rescue_tests t (length out) (length list))) (sym rescue-refusal)
      (then
      (then (last 12 (lt-decides 65536 (length t))) refl (λ _. then (last 9 (version t)) refl (λ _. last 8 (not-decides (looser t))))) refl
      (λ _. last 7 (or-decides (lt-decides (length out) (length (proper_of t))) (list-decides t (length list)))))

  pub in-order-rescue : in_order order (numbers (rescue_tests t (length out) (length list))) ≡ true
  unfolding in_order
  in-order-rescue = refl

  -- each "given exactly when" its condition holds, and none before it
  pub rescue-13 : (rescue_answer.refusal ≡ 13) ↔ Applies (rescue_tests t (length out) (length list)) 13
  rescue-13 = given-exactly 12 rescue-first refl

  pub rescue-10 : (rescue_answer.refusal ≡ 10) ↔ Applies (rescue_tests t (length out) (length list)) 10
  rescue-10 = given-exactly 9 rescue-first refl

  pub rescue-9 : (rescue_answer.refusal ≡ 9) ↔ Applies (rescue_tests t (length out) (length list)) 9
  rescue-9 = given-exactly 8 rescue-first refl

  pub rescue-8 : (rescue_answer.refusal ≡ 8) ↔ Applies (rescue_tests t (length out) (length list)) 8
  rescue-8 = given-exactly 7 rescue-first refl

  place-with : rescue_answer.place ≡ place_with r t
  unfolding told
  place-with = go r
    where
      go : (q : ℕ) → (rescue_numbers (told q t)).place ≡ place_with q t
      go zero = refl
      go (suc q) = refl

  -- "its place read from that form"; 0 beside any other number
  pub rescue-place : (rescue_answer.refusal ≡ 9 → LooseLongest t rescue_answer.place) × ((rescue_answer.refusal ≡ 9 → ⊥) → rescue_answer.place ≡ 0)
  rescue-place = (
    (λ e.
        let p : rescue_answer.place ≡ loose_place t = place-with ∙ ap (λ (q : ℕ). place_with q t) (sym rescue-refusal ∙ e) in
        subst (LooseLongest t) (sym p) (loose-place t)),
    (λ h. place-with ∙ ap (λ (b : Bool). cond b (loose_place t) 0) (ne_eqb r 9 (λ e. h (rescue-refusal ∙ e)))),
  )

  -- "A refusal changes no lent byte", and there are zeros beside it
  pub rescue-refused :
      (rescue_answer.refusal ≡ 0 → ⊥) →
      (text_memory ≡ out) × (list_memory ≡ list) × (rescue_answer.length ≡ 0) × (rescue_answer.changes ≡ 0)
  unfolding told given
  rescue-refused n = go r (λ e. n (rescue-refusal ∙ e))
    where
      go :
          (q : ℕ) → (q ≡ 0 → ⊥) →
          (given q (in_front (proper_of t) out) out ≡ out) × (given q (in_front (flat (changes_of t)) list) list ≡ list) ×
          ((rescue_numbers (told q t)).length ≡ 0) × ((rescue_numbers (told q t)).changes ≡ 0)
      go zero h = absurd (h refl)
      go (suc q) h = (refl, refl, refl, refl)

  -- "The proper text is never longer than the given one", and there are at most two changes for each byte: so much room is enough
  pub rescue-room : loose_refusal t ≡ 0 → length t ≤ length out → 4 * length t ≤ length list → rescue_answer.refusal ≡ 0
  rescue-room z a b = rescue-refusal ∙ room-enough t (length out) (length list) z a b

  -- ---- where nothing is refused

  module _ (e : rescue_answer.refusal ≡ 0) where
    none : r ≡ 0
    none = sym rescue-refusal ∙ e

    loose : loose_refusal t ≡ 0
    unfolding rescue_refusal
    loose = (both (loose_refusal t) _ none).0

    own : IsLoose t
    own = loose-own t loose

    abbrev nodes : Nodes
    nodes = loose_nodes (drop 7 t)

    long : rescue_answer.length ≡ length (proper_of t)
    unfolding told
    long = ap (λ (q : ℕ). (rescue_numbers (told q t)).length) none

    many : rescue_answer.changes ≡ length (changes_of t)
    unfolding told
    many = ap (λ (q : ℕ). (rescue_numbers (told q t)).changes) none

    text-all : text_memory ≡ in_front (proper_of t) out
    unfolding given
    text-all = ap (λ (q : ℕ). given q (in_front (proper_of t) out) out) none

    list_all : list_memory ≡ in_front (flat (changes_of t)) list
    unfolding given
    list_all = ap (λ (q : ℕ). given q (in_front (flat (changes_of t)) list) list) none

    -- the proper text stands in front, and the rest is as it was
    pub text-rescued : take rescue_answer.length text_memory ≡ proper_of t
    text-rescued = ap₂ take long text-all ∙ take-append_seam (proper_of t) (drop (length (proper_of t)) out)

    pub text-kept : drop rescue_answer.length text_memory ≡ drop rescue_answer.length out
    text-kept = ap₂ drop long text-all ∙ drop-append_seam (proper_of t) (drop (length (proper_of t)) out) ∙ sym (ap (λ (n : ℕ). drop n out) long)

    -- the changes stand in front, two numbers each, and the rest is as it was
    numbers-long : 2 * rescue_answer.changes ≡ length (flat (changes_of t))
    numbers-long = omega (arith, many, flat-length (changes_of t))

    pub changes-listed : take (2 * rescue_answer.changes) list_memory ≡ flat (changes_of t)
    changes-listed = ap₂ take numbers-long list_all ∙ take-append_seam (flat (changes_of t)) (drop (length (flat (changes_of t))) list)

    pub list-kept : drop (2 * rescue_answer.changes) list_memory ≡ drop (2 * rescue_answer.changes) list
    list-kept =
        ap₂ drop numbers-long list_all ∙ drop-append_seam (flat (changes_of t)) (drop (length (flat (changes_of t))) list)
        ∙ sym (ap (λ (n : ℕ). drop n list) numbers-long)

    -- change i is the numbers at 2 i and behind: "by place .., and then kind"
    pub change-stands :
        (i : ℕ) (x : Change) → i < rescue_answer.changes →
        (get_or list_memory (2 * i) 0 ≡ (get_or (changes_of t) i x).place) × (get_or list_memory (2 * i + 1) 0 ≡ (get_or (changes_of t) i x).kind)
    change-stands i x h =
        let k = flat-at (changes_of t) i x (omega (arith, many)) in
        let a : get_or list_memory (2 * i) 0 ≡ get_or (flat (changes_of t)) (2 * i) 0 = in_list (2 * i) (omega (arith, numbers-long)) in
        let b : get_or list_memory (2 * i + 1) 0 ≡ get_or (flat (changes_of t)) (2 * i + 1) 0 = in_list (2 * i + 1) (omega (arith, numbers-long)) in
        (a ∙ k.0, b ∙ k.1)
      where
        in_list : (j : ℕ) → j < length (flat (changes_of t)) → get_or list_memory j 0 ≡ get_or (flat (changes_of t)) j 0
        in_list j l = ap (λ (z : List ℕ). get_or z j 0) list_all ∙ get_or-append (flat (changes_of t)) (drop (length (flat (changes_of t))) list) 0 j l

    reads : ReadsAs Full (loose_north t) (loose_south t) (proper_of t) (answer nodes)
    unfolding proper_of
    reads = rescued-reads nodes own.loose (loose_north t) (loose_south t) own.north own.south

    -- the heading is the given one: n and s stay
    pub rescue-heading : take 7 (take rescue_answer.length text_memory) ≡ take 7 t
    rescue-heading = ap (take 7) text-rescued ∙ proper-heading t own

    -- "The proper text is never longer than the given one": a room as long is enough
    pub rescue-short : rescue_answer.length ≤ length t
    unfolding proper_of
    rescue-short = omega (arith, long, rescued-short own)

    -- "the proper text": `jgv_coverage_check` accepts it
    pub rescue-accepted : (check_numbers (checked_of (take rescue_answer.length text_memory))).refusal ≡ 0
    rescue-accepted =
        let a = (accepted-exactly (proper_of t)).1 (omega (arith, rescue-short, long, loose-short t loose), (Full, loose_north t, loose_south t, answer nodes, reads)) in
        check-refusal (take rescue_answer.length text_memory) ∙ ap text_refusal text-rescued ∙ a

    -- "of the same ground", as the fewest cells
    pub rescue-ground : SameGround (whole_cells nodes) (whole_cells (nodes_of (take rescue_answer.length text_memory)))
    rescue-ground = rw (text-rescued, read-nodes reads) (rescued-ground nodes own.loose)

    pub rescue-fewest : FewestOf (Covers (whole_cells nodes)) (whole_cells (nodes_of (take rescue_answer.length text_memory)))
    rescue-fewest = rw (text-rescued, read-nodes reads) (rescued-fewest nodes own.loose)

    -- "by place in the whole text, from 0, and then kind"
    pub rescue-order : InOrder (changes_of t)
    unfolding changes_of
    rescue-order = changes-order nodes

    -- the letters and digits of the text
    abbrev pub letters : List Item
    letters = items 7 [] 0 nodes

    -- they stand in the bytes so: which name, in whose list, and whether it is whole; and these are all letters and digits
    pub letters-stand : (x : Item) → Mem x letters → (InBody t x ⊎ InList t letters x) × ((x.own ≡ true) ↔ (get_or t (x.place + 1) 0 ≡ 40 → ⊥))
    letters-stand x m = (item-stands own x m, item-whole own x m)

    pub letters-all : (p : ℕ) → 7 ≤ p → p < length t → (get_or t p 0 ≡ 40 → ⊥) → (get_or t p 0 ≡ 41 → ⊥) → (x : Item) × Mem x letters × (x.place ≡ p)
    letters-all = byte-item own

    -- "Kind 1 is a letter or digit that names a whole cell named whole earlier, or one inside a larger whole cell named anywhere."
    pub rescue-kind-1 :
        (p : ℕ) →
        Mem (at p 1) (changes_of t) ↔
        ((x : Item) × Mem x letters × (x.place ≡ p) × (x.own ≡ true) × (NamedEarlier letters x ⊎ InLarger letters x))
    unfolding changes_of
    rescue-kind-1 = told-1 nodes

    -- "Kind 2 is a letter or digit not above the one right before it in the same list or body."
    pub rescue-kind-2 : (p : ℕ) → Mem (at p 2) (changes_of t) ↔ ((b : ℕ) × (c : ℕ) × Beside 7 nodes p b c × (c ≤ b))
    unfolding changes_of
    rescue-kind-2 = told-2 nodes

    -- the same by the bytes alone
    pub rescue-beside :
        (p : ℕ) → Mem (at p 2) (changes_of t) ↔ ((r : ℕ) × (7 ≤ r) × SideBySide t r p × (48 ≤ get_or t p 0) × (get_or t p 0 ≤ get_or t r 0))
    unfolding changes_of
    rescue-beside = told-beside own

    -- "Kind 3 is the opening bracket of an empty list."
    pub rescue-kind-3 : (p : ℕ) → Mem (at p 3) (changes_of t) ↔ ((7 ≤ p) × (get_or t p 0 ≡ 40) × (get_or t (p + 1) 0 ≡ 41))
    unfolding changes_of
    rescue-kind-3 = told-3 own

    -- "Kind 4 is, for each cell whole in the answer and nowhere named whole, the first letter or digit standing for it."
    pub rescue-kind-4 : (p : ℕ) → Mem (at p 4) (changes_of t) ↔ ((x : Item) × Mem x letters × (x.place ≡ p) × FirstFor nodes x)
    unfolding changes_of
    rescue-kind-4 = told-4 nodes

    pub rescue-each-4 :
        (q : Name) → Mem q (names (answer nodes)) → (Mem q (names nodes) → ⊥) →
        (x : Item) × Mem x letters × (x.name ≡ q) × Mem (at x.place 4) (changes_of t)
    unfolding changes_of
    rescue-each-4 = each-4 nodes own.loose

    -- there is no other kind
    pub rescue-kinds : (x : Change) → Mem x (changes_of t) → (1 ≤ x.kind) × (x.kind ≤ 4)
    unfolding changes_of
    rescue-kinds = kinds-are nodes

    no_length : (l : List Change) → length l ≡ 0 → l ≡ []
    no_length [] h = refl
    no_length (x ∷ l) h = absurd (omega arith)

    -- "The list is empty exactly for a proper text"
    pub rescue-empty : (rescue_answer.changes ≡ 0) ↔ ReadsAs Full (loose_north t) (loose_south t) t nodes
    unfolding changes_of
    rescue-empty = (
      (λ h.
          let c : changes nodes ≡ [] = no_length (changes_of t) (sym many ∙ h) in
          record { profiled = tt; north = own.north; south = own.south; body = record { good = (exactly nodes own.loose).0 c; all = own.all } }),
      (λ a. many ∙ ap length ((exactly nodes own.loose).1 a.body.good)),
    )

    -- "which comes back unchanged"
    pub rescue-unchanged : rescue_answer.changes ≡ 0 → take rescue_answer.length text_memory ≡ t
    unfolding proper_of
    rescue-unchanged h = text-rescued ∙ unchanged (rescue-empty.0 h)
