-- The plan without the placement that it just got.
use Rattle.std.proofs.Common.{◌≡◌, ℕ, Bool, false, not, nat_eq, cond, List, [], ◌∷◌, ◌++◌, filter, Result, Ok, Err, IfErr, ap, sym, ◌∙◌, refl, eq-eqb, append-nil}
use Rattle.std.proofs.lemmas.List.Elements.{filter-append}
use Rattle.usb_base.specs.declared.endpoints.EpDesc.{EpDesc}
use Rattle.usb_base.specs.declared.reports.OfferError.{OfferError}
use Rattle.word_mem.specs.Memory.{Mem}
use Rattle.mem_runs.specs.Book.{Book, Holding, holding}
use Rattle.bandwidth.specs.declared.placements.Placement.{Placement}
use Rattle.bandwidth.specs.declared.placements.Placed.{Placed}
use Rattle.bandwidth.specs.Admission.{is_placed, joined}
use Rattle.bandwidth.proofs.Ids.{without_none}
use Rattle.drv_periodic_table.specs.Periodic.{want_of}
use Rattle.drv_frames_content.specs.Part.{Held, with_place}
use Rattle.drv_frames.specs.declared.placing.NewPlace.{NewPlace}
use Rattle.drv_frames.specs.Places.{withdrawn}

pub withdrawn_same : (h : Held) (e : ℕ) (x : EpDesc) (p : Placement) → is_placed h.periodic.plan e ≡ false → withdrawn (with_place h e x p) e ≡ h
withdrawn_same h e x p fresh =
    let placed = h.periodic.plan.placed in
    let own : Placed = record { want = want_of e x; placement = p } in
    let out : filter (λ (y : Placed). not (nat_eq y.want.id e)) (own ∷ []) ≡ [] = ap (λ (b : Bool). cond (not b) (own ∷ []) []) (eq-eqb e e refl) in
    let all : filter (λ (y : Placed). not (nat_eq y.want.id e)) (joined placed (want_of e x) p) ≡ placed =
    filter-append (λ (y : Placed). not (nat_eq y.want.id e)) placed (own ∷ [])
    ∙ ap (λ (xs : List Placed). filter (λ (y : Placed). not (nat_eq y.want.id e)) placed ++ xs) out
    ∙ append-nil (filter (λ (y : Placed). not (nat_eq y.want.id e)) placed)
    ∙ sym (without_none placed e fresh) in
    ap (λ (ps : List Placed). record h { periodic = record h.periodic { plan = record h.periodic.plan { placed = ps } } }) all

-- a refusal leaves what stood before the placement was asked
pub refused_same : (r : Result NewPlace OfferError) (k l : Book) (m n : Mem) (h g q : Held) (e : ℕ) (x : EpDesc) (p : Placement) → IfErr r (λ _. holding l n ≡ holding k m) → IfErr r (λ _. q ≡ withdrawn g e) → g ≡ with_place h e x p → is_placed h.periodic.plan e ≡ false → IfErr r (λ _. (l ≡ k) × (q ≡ h) × (n ≡ m))
refused_same (Ok place) k l m n h g q e x p same gone one fresh = tt
refused_same (Err why) k l m n h g q e x p same gone one fresh =
    (ap (λ (o : Holding). o.book) same, gone ∙ ap (λ (i : Held). withdrawn i e) one ∙ withdrawn_same h e x p fresh, ap (λ (o : Holding). o.memory) same)
