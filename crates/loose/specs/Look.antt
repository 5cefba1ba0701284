-- What a looser text is refused for (02, W-206): "Refusals: 9 for bodies outside the looser form, its place read from that form"; 13 and 10 as in
-- reading. Laws/Look shows when each is given. Assumes nothing.
use Rattle.std.specs.Prelude.{Bool, false, ◌&&◌, not, cond, List, ℕ, zero, suc, ◌-◌, leb, ltb, eqb, length, drop, get_or, Err, Ok, Result}
use Rattle.reading.specs.declared.Refused.{Refused}
use Rattle.logic.specs.Refusal.{refuse, ◌otherwise◌}
use Rattle.cell.specs.declared.Arrangement.{Arrangement}
use Rattle.loose.specs.LooseText.{LooseAs}
use Rattle.loose.specs.LooseScan.{lead_one, scan, depth, loose_nodes, loose_place}

-- n and s of its heading
abbrev pub loose_north : List ℕ → ℕ
loose_north t = get_or t 5 0 - 48

abbrev pub loose_south : List ℕ → ℕ
loose_south t = get_or t 6 0 - 48

abbrev pub loose_arrangement : List ℕ → Arrangement
loose_arrangement t = record { north = loose_north t; south = loose_south t }

-- read as what its bytes tell
abbrev pub IsLoose : List ℕ → Type 0
IsLoose t = LooseAs (loose_north t) (loose_south t) t (loose_nodes (drop 7 t))

-- three bytes at least are as in a heading of version 1, and not five (Laws/Look: exactly OtherThanOne)
unfoldable pub not_one : List ℕ → Bool
not_one t = leb 5 (length t) && (leb 3 (lead_one t) && ltb (lead_one t) 5)

-- the heading is right, the scan goes over all of the body, and no list is open behind it
unfoldable pub is_loose : List ℕ → Bool
is_loose t = leb 7 (lead_one t) && (eqb (scan 0 false (drop 7 t)) (length (drop 7 t)) && eqb (depth 0 false (drop 7 t)) 0)

unfoldable pub loose_refusal : List ℕ → ℕ
unfolding not_one is_loose
loose_refusal t = refuse (ltb 65536 (length t)) 13 otherwise refuse (not_one t) 10 otherwise refuse (not (is_loose t)) 9

-- the place with 9, and 0 with any other number
abbrev pub place_with : ℕ → List ℕ → ℕ
place_with r t = cond (eqb r 9) (loose_place t) 0

-- a looser text and its arrangement; or the refusal, with the place
unfoldable pub looked : ℕ → List ℕ → Result Arrangement Refused
looked zero t = Ok (loose_arrangement t)
looked (suc r) t = Err (record { refusal = suc r; place = place_with (suc r) t })
