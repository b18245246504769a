-- A control request is lent.
use Rattle.std.proofs.Common.{◌≡◌, ◌≢◌, ℕ, ◌*◌, Bool, true, false, if◌then◌else◌, List, [], ◌∷◌, Some, ap, refl, sym, subst, ◌∙◌, ⊎_elim, inr}
use Rattle.std.specs.Prelude.{◌⊎◌, None}
use Rattle.std.proofs.lemmas.Bool.{false≢true}
use Rattle.qh_qtd.specs.declared.qtd.Qtd.{Qtd}
use Rattle.drv_table.specs.declared.content.QtdNote.{QtdNote}
use Rattle.drv_table.specs.declared.content.Stage.{Stage}
use Rattle.drv_table.specs.Words.{dummy_qtd, request_stages, request_length, asks_in, data_stage}
use Rattle.drv_table.specs.Offers.{is_last}
use Rattle.law_structures.specs.lent_structures.Structures.{Element, Structures, with_structure}
use Rattle.law_structures.specs.lent_structures.Sound.{HasBuffer}
use Rattle.law_structures.proofs.lemmas.lent_structures.Names.{with_here, with_there}
use Rattle.law_structures.proofs.lemmas.lent_structures.Altering.{found_element}
use Rattle.law_driver_ring.specs.Written.{last_block}
use Rattle.law_driver_ring.specs.Pieces.{stage_qtd, IsNewQtd, AreStanding, AreBuffered}
use Rattle.claims_report.specs.Requests.{Request}
use Rattle.law_request.specs.Host.{has_data}
use Rattle.law_devices.specs.ring_requests.Laid.{Places, IsIdle}
use Rattle.law_reports.specs.requests.request_bytes.Fresh.{data_places, other_places, next_of, request_places}
use Rattle.law_reports.proofs.lemmas.requests.lemmas.request_bytes.Fresh.{lent_request_is_fresh, positive}
use Rattle.law_reports.proofs.lemmas.requests.lemmas.request_bytes.Requests.{no_data, with_data, request_case}
use Rattle.law_reports.proofs.lemmas.requests.Coming.{lent_is_coming}
use Rattle.law_reports.specs.requests.Lent.{RequestIsLent}

abbrev others_of : List Stage → List Stage
others_of [] = []
others_of (s ∷ ss) = ss

abbrev places_by : List QtdNote → ℕ → Bool → Places
places_by notes b some =
    if some then data_places b (next_of notes b) (next_of notes (next_of notes b)) (next_of notes (next_of notes (next_of notes b)))
    else other_places b (next_of notes b) (next_of notes (next_of notes b))

-- what is lent with these stages
record AreLentBy (part : Structures) (notes : List QtdNote) (b dummy : ℕ) (ss : List Stage) : Type 0 where
  standing : AreStanding part notes dummy (others_of ss) (next_of notes b)
  buffered : AreBuffered part notes dummy ss b
  ends : last_block notes ss b ≡ dummy

-- what is asked of the places beside that
record IsSetOut (part : Structures) (notes : List QtdNote) (b dummy : ℕ) (r : Request) (x : Places) : Type 0 where
  setup : x.setup ≡ 32 * b
  behind : x.behind ≡ Some (32 * dummy)
  buffer : has_data r ≡ true → (t : Qtd) → part x.data_at ≡ Some (Element t) → HasBuffer part t t.token.total
  tail : IsIdle part (32 * dummy)

module _ (part : Structures) (notes : List QtdNote) (b dummy : ℕ) (r : Request) where
  idle_at : (i : ℕ) → i ≡ dummy → part (32 * i) ≡ Some (Element dummy_qtd) → IsIdle part (32 * dummy)
  idle_at i same here = record { qtd = dummy_qtd; here = ap (λ (j : ℕ). part (32 * j)) (sym same) ∙ here; idle = refl }

  set_without : has_data r ≡ false → AreLentBy part notes b dummy no_data → IsSetOut part notes b dummy r (request_places notes b r)
  set_without none g = record {
    setup = ap (λ (z : Bool). (places_by notes b z).setup) none;
    behind = ap (λ (z : Bool). (places_by notes b z).behind) none ∙ ap (λ (i : ℕ). Some (32 * i)) g.ends;
    buffer = λ some t here. absurd (false≢true (sym none ∙ some));
    tail = idle_at (next_of notes (next_of notes b)) g.ends g.standing.1;
  }

  set_with : has_data r ≡ true → AreLentBy part notes b dummy (with_data r.setup) → IsSetOut part notes b dummy r (request_places notes b r)
  set_with some g = record {
    setup = ap (λ (z : Bool). (places_by notes b z).setup) some;
    behind = ap (λ (z : Bool). (places_by notes b z).behind) some ∙ ap (λ (i : ℕ). Some (32 * i)) g.ends;
    buffer = λ has t here.
        let u : Qtd = stage_qtd notes (data_stage (asks_in r.setup) (request_length r.setup)) (next_of notes b) dummy false in
        let same : t ≡ u = found_element (part (32 * next_of notes b)) t u (ap part (sym (ap (λ (z : Bool). (places_by notes b z).data_at) some)) ∙ here) g.standing.0 in
        subst (λ (w : Qtd). HasBuffer part w w.token.total) (sym same) (g.buffered.1.0 (positive (request_length r.setup) some));
    tail = idle_at (next_of notes (next_of notes (next_of notes b))) g.ends g.standing.1.1;
  }

  set_out : (s : Stage) (ss : List Stage) → s ∷ ss ≡ request_stages r.setup → AreLentBy part notes b dummy (s ∷ ss) → IsSetOut part notes b dummy r (request_places notes b r)
  set_out s ss are g =
      ⊎_elim {C = IsSetOut part notes b dummy r (request_places notes b r)}
      (λ (none : (has_data r ≡ false) × (request_stages r.setup ≡ no_data)). set_without none.0 (subst (AreLentBy part notes b dummy) (are ∙ none.1) g))
      (λ (some : (has_data r ≡ true) × (request_stages r.setup ≡ with_data r.setup)). set_with some.0 (subst (AreLentBy part notes b dummy) (are ∙ some.1) g)) (request_case r)

-- the new end is one of the new qTDs
new_end : (notes : List QtdNote) (dummy : ℕ) (ss : List Stage) (b : ℕ) → IsNewQtd notes dummy ss b (32 * last_block notes ss b) dummy_qtd
new_end notes dummy [] b = (refl, refl)
new_end notes dummy (s ∷ ss) b = inr (new_end notes dummy ss (next_of notes b))

pub request_is_lent : RequestIsLent
request_is_lent d m t y x s ss slot parts now v r k are stands held pieces tells first whole apart others =
    let n : ℕ = 32 * x.queue in
    let b : ℕ = 32 * y.first in
    let u : Qtd = stage_qtd d.notes s y.first x.dummy (is_last ss) in
    let here : now n b ≡ Some (Element dummy_qtd) = pieces.still n b (Element dummy_qtd) first in
    let part : Structures = with_structure (now n) b (Element u) in
    let z : IsSetOut (now n) d.notes y.first x.dummy r (request_places d.notes y.first r) =
    set_out (now n) d.notes y.first x.dummy r s ss are (record { standing = pieces.standing; buffered = pieces.buffered; ends = k.ends }) in
    let fresh = lent_request_is_fresh d m t y x s ss slot parts now part v.endpoint r k are stands held pieces tells (record { here = with_here (now n) b (Element u); before = here; others = λ i differs. with_there (now n) b (Element u) i differs }) in
    let end_none : parts n (32 * x.dummy) ≡ None =
    subst (λ (i : ℕ). parts n (32 * i) ≡ None) k.ends (pieces.none_before (32 * last_block d.notes ss (next_of d.notes y.first)) dummy_qtd (new_end d.notes x.dummy ss (next_of d.notes y.first))) in
    lent_is_coming v r (request_places d.notes y.first r) b (32 * x.dummy) u part (now n) (record {
      request = whole;
      setup = z.setup;
      behind = z.behind;
      apart = apart;
      others = others;
      beside = λ same. let none : None ≡ Some (Element dummy_qtd) = sym end_none ∙ ap (parts n) same ∙ first in cc;
      here = with_here (now n) b (Element u);
      same = λ a differs. with_there (now n) b (Element u) a differs;
      fresh = fresh;
      buffer = z.buffer;
      unnamed = pieces.first.own;
      tail = z.tail;
    })
