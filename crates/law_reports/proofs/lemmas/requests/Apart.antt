-- The qTDs of requests are apart.
use Rattle.std.proofs.Common.{◌≡◌, ℕ, ◌+◌, ◌*◌, ◌<◌, ◌≤◌, Bool, true, false, ap, refl, sym, ◌∙◌, ⊎_elim, inr, arith}
use Rattle.std.specs.Prelude.{◌⊎◌, if◌then◌else◌}
use Rattle.link_words.specs.declared.kinds.QtdLink.TheVariants.{To}
use Rattle.drv_table.specs.DriverContent.{DriverContent}
use Rattle.claims_driver.specs.Owners.{Element, note_in}
use Rattle.claims_driver.specs.Leaving.{HasOwners}
use Rattle.law_structures.specs.lent_structures.Structures.{Structures}
use Rattle.claims_report.specs.Requests.{Request}
use Rattle.law_request.specs.Host.{Endpoint, Stage, Setup, Data, Status, has_data}
use Rattle.law_ring.specs.Front.{LinksRise}
use Rattle.law_devices.specs.ring_requests.Laid.{Places, place_at, AreApart, IsFresh}
use Rattle.law_devices.specs.ring_requests.Shown.{AreFresh}
use Rattle.law_reports.specs.requests.driver_requests.Requests.{IsLaidOut}
use Rattle.law_reports.proofs.lemmas.requests.lemmas.driver_requests.Owning.{qtds_case, first_piece, places_without, setup_place, IsQtdAt, status_place, data_place, element_of, owned_piece}
use Rattle.law_reports.specs.requests.Apart.{LaidAreApart, LaidAreOthers}

-- ---- of one request

module _ (d : DriverContent) (t : ℕ) (e : Endpoint) (r : Request) (x : Places) (order : ℕ → ℕ) (part : Structures) (k : IsLaidOut d t r x) (rise : LinksRise order part) (fresh : AreFresh e r x part Setup) where
  first : IsFresh e r x part Setup
  first = fresh Setup refl

  up_from_setup : (s : Stage) (b : Bool) → has_data r ≡ b → s ≡ (if b then Data else Status) → order x.setup < order (place_at x s)
  up_from_setup s b is at =
      rise.next x.setup first.stage.qtd (place_at x s) first.stage.here
      (first.stage.leads.next ∙ ap (λ (z : Bool). To (place_at x (if z then Data else Status))) is ∙ ap (λ (z : Stage). To (place_at x z)) (sym at))

  apart_by : (b : Bool) → has_data r ≡ b → AreApart x
  apart_by true some =
      let one : order x.setup < order x.data_at = up_from_setup Data true some refl in
      let read : IsFresh e r x part Data = fresh Data some in
      let two : order x.data_at < order x.status = rise.next x.data_at read.stage.qtd x.status read.stage.here read.stage.leads.next in
      record {
        setup_data = λ same. let is = ap order same in omega (arith, one, is);
        setup_status = λ same. let is = ap order same in omega (arith, one, two, is);
        data_status = λ same. let is = ap order same in omega (arith, two, is);
      }
  apart_by false none =
      let one : order x.setup < order x.status = up_from_setup Status false none refl in
      let setup = setup_place d t r x k in
      let odd : x.data_at ≡ 32 * k.own.first + 1 = ap (λ (p : Places). p.data_at) (places_without d t r x k none) in
      let status = (status_place d t r x k).at in
      record {
        setup_data = λ same. omega (arith, setup, odd, same);
        setup_status = λ same. let is = ap order same in omega (arith, one, is);
        data_status = λ same. omega (arith, odd, status, same);
      }

pub laid_are_apart : LaidAreApart
laid_are_apart d t e r x order part k rise fresh = apart_by d t e r x order part k rise fresh (has_data r) refl

-- ---- of two transfers

abbrev some_qtds : (d : DriverContent) (t : ℕ) (r : Request) (x : Places) → (k : IsLaidOut d t r x) → IsQtdAt d k.own x.setup
some_qtds d t r x k = record {
  block = k.own.first;
  at = sym (setup_place d t r x k);
  piece = first_piece (note_in d.notes) k.own.first k.own.qtds
      (let q = k.qtds in ⊎_elim {C = 1 ≤ k.own.qtds} (λ none. let m = none.1 in omega (arith, q, m)) (λ some. let m = some.1 in omega (arith, q, m)) (qtds_case r));
}

stands_at : (d : DriverContent) (t : ℕ) (r : Request) (x : Places) → (k : IsLaidOut d t r x) → (s : Stage) → (place_at x s ≡ 32 * k.own.first + 1) ⊎ IsQtdAt d k.own (place_at x s)
stands_at d t r x k Setup = inr (some_qtds d t r x k)
stands_at d t r x k Data = data_place d t r x k
stands_at d t r x k _ = inr (status_place d t r x k)

module _ (d : DriverContent) (t u : ℕ) (r q : Request) (x y : Places) (has : HasOwners d) (k : IsLaidOut d t r x) (z : IsLaidOut d u q y) where
  owner_of : (a : ℕ) (p : IsQtdAt d k.own a) → has.owner p.block ≡ Element t
  owner_of a p = owned_piece d has t p.block k.own k.here k.held p.piece

  owner_too : (a : ℕ) (p : IsQtdAt d z.own a) → has.owner p.block ≡ Element u
  owner_too a p = owned_piece d has u p.block z.own z.here z.held p.piece

  same_owner : (b c : ℕ) → has.owner b ≡ Element t → has.owner c ≡ Element u → b ≡ c → t ≡ u
  same_owner b c one other same = ap element_of (sym one ∙ ap has.owner same ∙ other)

  same_by : (a b : ℕ) → (a ≡ 32 * k.own.first + 1) ⊎ IsQtdAt d k.own a → (b ≡ 32 * z.own.first + 1) ⊎ IsQtdAt d z.own b → a ≡ b → t ≡ u
  same_by a b one other same =
      ⊎_elim {C = t ≡ u}
      (λ (at : a ≡ 32 * k.own.first + 1).
      ⊎_elim {C = t ≡ u}
      (λ (too : b ≡ 32 * z.own.first + 1).
      let p = some_qtds d t r x k in
      let g = some_qtds d u q y z in
      same_owner k.own.first z.own.first (owner_of x.setup p) (owner_too y.setup g) (omega (arith, at, too, same)))
      (λ (g : IsQtdAt d z.own b). let too = g.at in absurd (omega (arith, at, too, same))) other)
      (λ (p : IsQtdAt d k.own a).
      let at = p.at in
      ⊎_elim {C = t ≡ u} (λ (too : b ≡ 32 * z.own.first + 1). absurd (omega (arith, at, too, same)))
      (λ (g : IsQtdAt d z.own b). let too = g.at in same_owner p.block g.block (owner_of a p) (owner_too b g) (omega (arith, at, too, same))) other) one

pub laid_are_others : LaidAreOthers
laid_are_others d t u r q x y has k z differs s w same = differs (same_by d t u r q x y has k z (place_at x s) (place_at y w) (stands_at d t r x k s) (stands_at d u q y z w) same)
