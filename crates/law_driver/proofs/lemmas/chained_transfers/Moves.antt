-- Each transfer is one that its endpoint takes still where the endpoints keep what they were opened as.
use Rattle.std.proofs.Common.{◌≡◌, ◌≢◌, ℕ, List, [], ◌∷◌, ◌++◌, set, slice_get, Some, ap, sym, ◌∙◌, ⊎_elim, refl}
use Rattle.std.proofs.lemmas.Bool.{cases_eq}
use Rattle.std.proofs.lemmas.Option.{same_Some}
use Rattle.law_driver.proofs.Common.{pushed}
use Rattle.law_common.proofs.Lists.{set_here, set_there}
use Rattle.usb_base.specs.declared.endpoints.EpDesc.{EpDesc}
use Rattle.drv_table.specs.declared.content.Endpoint.{Endpoint}
use Rattle.drv_table.specs.declared.content.Transfer.{Transfer}
use Rattle.drv_table.specs.DriverContent.{DriverContent}
use Rattle.law_driver.specs.chained_transfers.Bulk.{sort_by, MovesAs}

pub record IsOpenedAs (xs : List Endpoint) (e : ℕ) (k : EpDesc) : Type 0 where
  pub one : Endpoint
  pub here : slice_get xs e ≡ Some one
  pub same : one.desc ≡ k

abbrev pub KeepDescs : List Endpoint → List Endpoint → Type 0
KeepDescs xs ys = (e : ℕ) (x : Endpoint) → slice_get xs e ≡ Some x → IsOpenedAs ys e x.desc

pub descs_same : (xs : List Endpoint) → KeepDescs xs xs
descs_same xs e x here = record { one = x; here = here; same = refl }

pub descs_set : (xs : List Endpoint) (e : ℕ) (x z : Endpoint) → slice_get xs e ≡ Some x → z.desc ≡ x.desc → KeepDescs xs (set xs e z)
descs_set xs e x z here same k w there = ⊎_elim
    (λ (own : k ≡ e).
    let is : w ≡ x = same_Some w x (sym there ∙ ap (slice_get xs) own ∙ here) in
    record { one = z; here = ap (slice_get (set xs e z)) own ∙ set_here xs e x z here; same = same ∙ ap (λ (r : Endpoint). r.desc) (sym is) })
    (λ (other : k ≢ e). record { one = w; here = set_there xs e k z other ∙ there; same = refl }) (cases_eq k e)

pub descs_push : (xs : List Endpoint) (x : Endpoint) → KeepDescs xs (xs ++ x ∷ [])
descs_push xs x e z here = record { one = z; here = pushed xs x e z here; same = refl }

abbrev pub AllMove : DriverContent → Type 0
AllMove d = (t : ℕ) (y : Transfer) → slice_get d.transfers t ≡ Some y → MovesAs d y

pub moves_on : (d c : DriverContent) (y z : Transfer) → z.endpoint ≡ y.endpoint → z.sort ≡ y.sort → KeepDescs d.endpoints c.endpoints → MovesAs d y → MovesAs c z
moves_on d c y z of_e same kept moves =
    let k = kept y.endpoint moves.endpoint moves.here in
    record { endpoint = k.one; here = ap (slice_get c.endpoints) of_e ∙ k.here; sort = same ∙ moves.sort ∙ ap (λ (x : EpDesc). sort_by x.name.way) (sym k.same) }

pub moves_same : (d c : DriverContent) → KeepDescs d.endpoints c.endpoints → AllMove d → (t : ℕ) (y : Transfer) → slice_get d.transfers t ≡ Some y → MovesAs c y
moves_same d c kept old t y here = moves_on d c y y refl refl kept (old t y here)

pub moves_set : (d c : DriverContent) (t : ℕ) (y z : Transfer) → slice_get d.transfers t ≡ Some y → z.endpoint ≡ y.endpoint → z.sort ≡ y.sort → KeepDescs d.endpoints c.endpoints → AllMove d
    → (k : ℕ) (w : Transfer) → slice_get (set d.transfers t z) k ≡ Some w → MovesAs c w
moves_set d c t y z here of_e same kept old k w there = ⊎_elim
    (λ (own : k ≡ t).
    let is : w ≡ z = same_Some w z (sym there ∙ ap (slice_get (set d.transfers t z)) own ∙ set_here d.transfers t y z here) in
    moves_on d c y w (ap (λ (r : Transfer). r.endpoint) is ∙ of_e) (ap (λ (r : Transfer). r.sort) is ∙ same) kept (old t y here))
    (λ (other : k ≢ t). moves_on d c w w refl refl kept (old k w (sym (set_there d.transfers t k z other) ∙ there))) (cases_eq k t)
