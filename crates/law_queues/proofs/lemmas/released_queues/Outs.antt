-- What is out once a transfer was given back.
use Rattle.std.proofs.Common.{◌≡◌, ◌≢◌, ℕ, zero, suc, ◌+◌, ◌*◌, ◌==◌, ◌&&◌, not, ◌<◌, ◌≤◌, Bool, true, false, if◌then◌else◌, List, [], ◌∷◌, ◌++◌, drop, set, slice_get, Option, Some, None, ap, refl, sym, ◌∙◌, ⊎_elim, inl, inr, arith}
use Rattle.std.proofs.lemmas.Option.{same_Some}
use Rattle.law_ring.proofs.Common.{among_either}
use Rattle.law_common.proofs.Booleans.{waits_by}
use Rattle.law_queues.proofs.Common.{if_zero, none_of}
use Rattle.drv_table.specs.declared.content.Command.{Command}
use Rattle.drv_table.specs.declared.content.Transfer.{Transfer}
use Rattle.drv_table.specs.DriverContent.{DriverContent}
use Rattle.claims_driver.specs.Owners.{NoteRuns, note_in}
use Rattle.law_driver.proofs.lemmas.run_owners.Released.{same_by_test}
use Rattle.law_driver.specs.chained_transfers.Chains.{piece_at}
use Rattle.law_driver.specs.chained_transfers.Out.{pieces_from, passed, out_of_transfer, out_of, out_now}
use Rattle.law_ring.specs.Order.{IsAmong}
use Rattle.law_controller.specs.controlled_streams.Returned.{staying}

-- ---- lists

stays_more : (goes : ℕ → Bool) (c : Bool) (b : ℕ) (xs ys : List ℕ) → (if c then xs ++ ys else b ∷ (xs ++ ys)) ≡ (if c then xs else b ∷ xs) ++ ys
stays_more goes true b xs ys = refl
stays_more goes false b xs ys = refl

stays_joined : (goes : ℕ → Bool) (xs ys : List ℕ) → staying goes (xs ++ ys) ≡ staying goes xs ++ staying goes ys
stays_joined goes [] ys = refl
stays_joined goes (b ∷ xs) ys =
    ap (λ (rest : List ℕ). if goes b then rest else b ∷ rest) (stays_joined goes xs ys) ∙ stays_more goes (goes b) b (staying goes xs) (staying goes ys)

pub all_stay : (goes : ℕ → Bool) (xs : List ℕ) → ((a : ℕ) → IsAmong a xs → goes a ≡ false) → staying goes xs ≡ xs
all_stay goes [] each = refl
all_stay goes (b ∷ xs) each =
    ap (λ (c : Bool). if c then staying goes xs else b ∷ staying goes xs) (each b (inl refl)) ∙ ap (λ (rest : List ℕ). b ∷ rest) (all_stay goes xs (λ a among. each a (inr among)))

all_go : (goes : ℕ → Bool) (xs : List ℕ) → ((a : ℕ) → IsAmong a xs → goes a ≡ true) → staying goes xs ≡ []
all_go goes [] each = refl
all_go goes (b ∷ xs) each = ap (λ (c : Bool). if c then staying goes xs else b ∷ staying goes xs) (each b (inl refl)) ∙ all_go goes xs (λ a among. each a (inr among))

-- ---- what is out where no command is unfinished

abbrev pub out_plain : (ℕ → NoteRuns) → ℕ → List Transfer → List ℕ
out_plain note e [] = []
out_plain note e (y ∷ ys) = out_of_transfer note e 0 y ++ out_plain note e ys

plain_is : (note : ℕ → NoteRuns) (e made : ℕ) (ys : List Transfer) → out_of note e None made ys ≡ out_plain note e ys
plain_is note e made [] = refl
plain_is note e made (y ∷ ys) =
    ap (λ (i : ℕ). out_of_transfer note e i y ++ out_of note e None made ys) (if_zero ys) ∙ ap (λ (rest : List ℕ). out_of_transfer note e 0 y ++ rest) (plain_is note e made ys)

pub out_is : (d : DriverContent) (e : ℕ) → d.command ≡ None → out_now d e ≡ out_plain (note_in d.notes) e d.transfers
out_is d e free = ap (λ (c : Option Command). out_of (note_in d.notes) e c d.made d.transfers) free ∙ plain_is (note_in d.notes) e d.made d.transfers

-- ---- which is out

pub record IsDropped (note : ℕ → NoteRuns) (b m l a : ℕ) : Type 0 where
  pub number : ℕ
  pub from : m ≤ number
  pub below : number < l
  pub at : a ≡ 32 * piece_at note b number

in_dropped : (note : ℕ → NoteRuns) (b m l a : ℕ) → IsAmong a (drop m (pieces_from note b l)) → IsDropped note b m l a
in_dropped note b zero zero a among = absurd among
in_dropped note b (suc m) zero a among = absurd among
in_dropped note b zero (suc l) a (inl same) = record { number = 0; from = omega arith; below = omega arith; at = same }
in_dropped note b zero (suc l) a (inr among) =
    let k = in_dropped note (note b).next zero l a among in
    let less = k.below in
    record { number = suc k.number; from = omega arith; below = omega (arith, less); at = k.at }
in_dropped note b (suc m) (suc l) a among =
    let k = in_dropped note (note b).next m l a among in
    let less = k.below in
    let from = k.from in
    record { number = suc k.number; from = omega (arith, from); below = omega (arith, less); at = k.at }

pub record IsOutOf (note : ℕ → NoteRuns) (e : ℕ) (y : Transfer) (a : ℕ) : Type 0 where
  pub endpoint : y.endpoint ≡ e
  pub held : y.released ≡ false
  pub dropped : IsDropped note y.place (0 + passed y.reported) y.left a

pub out_of_one : (note : ℕ → NoteRuns) (e : ℕ) (y : Transfer) (a : ℕ) → IsAmong a (out_of_transfer note e 0 y) → IsOutOf note e y a
out_of_one note e y a among = by_test (y.endpoint == e && not y.released) refl among
  where
    by_test : (c : Bool) → (y.endpoint == e && not y.released) ≡ c → IsAmong a (if c then drop (0 + passed y.reported) (pieces_from note y.place y.left) else []) → IsOutOf note e y a
    by_test true is there =
        let both = waits_by (y.endpoint == e) y.released is in
        record { endpoint = same_by_test y.endpoint e both.0; held = both.1; dropped = in_dropped note y.place (0 + passed y.reported) y.left a there }
    by_test false is there = absurd there

pub record IsOutIn (note : ℕ → NoteRuns) (e : ℕ) (ts : List Transfer) (a : ℕ) : Type 0 where
  pub number : ℕ
  pub transfer : Transfer
  pub here : slice_get ts number ≡ Some transfer
  pub is : IsOutOf note e transfer a

pub out_in : (note : ℕ → NoteRuns) (e : ℕ) (ts : List Transfer) (a : ℕ) → IsAmong a (out_plain note e ts) → IsOutIn note e ts a
out_in note e [] a among = absurd among
out_in note e (y ∷ ys) a among =
    ⊎_elim (λ (first : IsAmong a (out_of_transfer note e 0 y)). record { number = 0; transfer = y; here = refl; is = out_of_one note e y a first })
    (λ (rest : IsAmong a (out_plain note e ys)). let k = out_in note e ys a rest in record { number = suc k.number; transfer = k.transfer; here = k.here; is = k.is })
    (among_either a (out_of_transfer note e 0 y) (out_plain note e ys) among)

-- ---- a transfer is given back

abbrev pub gone : Transfer → Transfer
gone y = record y { released = true }

none_of_gone : (note : ℕ → NoteRuns) (e : ℕ) (y : Transfer) → out_of_transfer note e 0 (gone y) ≡ []
none_of_gone note e y = by_test (y.endpoint == e)
  where
    by_test : (c : Bool) → (if c && not true then drop (0 + passed y.reported) (pieces_from note y.place y.left) else []) ≡ []
    by_test true = refl
    by_test false = refl

pub plain_stays : (goes : ℕ → Bool) (note : ℕ → NoteRuns) (e : ℕ) (ts : List Transfer) → ((u a : ℕ) (z : Transfer) → slice_get ts u ≡ Some z → IsAmong a (out_of_transfer note e 0 z) → goes a ≡ false) → staying goes (out_plain note e ts) ≡ out_plain note e ts
plain_stays goes note e [] each = refl
plain_stays goes note e (y ∷ ys) each =
    stays_joined goes (out_of_transfer note e 0 y) (out_plain note e ys)
    ∙ ap (λ (xs : List ℕ). xs ++ staying goes (out_plain note e ys)) (all_stay goes (out_of_transfer note e 0 y) (λ a among. each 0 a y refl among))
    ∙ ap (λ (xs : List ℕ). out_of_transfer note e 0 y ++ xs) (plain_stays goes note e ys (λ u a z here among. each (suc u) a z here among))

pub plain_gone : (goes : ℕ → Bool) (note : ℕ → NoteRuns) (e : ℕ) (ts : List Transfer) (t : ℕ) (y : Transfer) → slice_get ts t ≡ Some y → ((a : ℕ) → IsAmong a (out_of_transfer note e 0 y) → goes a ≡ true)
    → ((u a : ℕ) (z : Transfer) → u ≢ t → slice_get ts u ≡ Some z → IsAmong a (out_of_transfer note e 0 z) → goes a ≡ false) → staying goes (out_plain note e ts) ≡ out_plain note e (set ts t (gone y))
plain_gone goes note e [] t y here mine others = absurd (cc)
plain_gone goes note e (z ∷ zs) zero y here mine others =
    let is : z ≡ y = same_Some z y here in
    stays_joined goes (out_of_transfer note e 0 z) (out_plain note e zs)
    ∙ ap (λ (xs : List ℕ). xs ++ staying goes (out_plain note e zs)) (ap (λ (r : Transfer). staying goes (out_of_transfer note e 0 r)) is ∙ all_go goes (out_of_transfer note e 0 y) mine ∙ sym (none_of_gone note e y))
    ∙ ap (λ (xs : List ℕ). out_of_transfer note e 0 (gone y) ++ xs) (plain_stays goes note e zs (λ u a r there among. others (suc u) a r (λ same. absurd (omega (arith, same))) there among))
plain_gone goes note e (z ∷ zs) (suc t) y here mine others =
    stays_joined goes (out_of_transfer note e 0 z) (out_plain note e zs)
    ∙ ap (λ (xs : List ℕ). xs ++ staying goes (out_plain note e zs)) (all_stay goes (out_of_transfer note e 0 z) (λ a among. others 0 a z (λ same. absurd (omega (arith, same))) refl among))
    ∙ ap (λ (xs : List ℕ). out_of_transfer note e 0 z ++ xs) (plain_gone goes note e zs t y here mine (λ u a r differs there among. others (suc u) a r (λ same. differs (let i : u ≡ t = omega (arith, same) in i)) there among))

pub plain_other : (note : ℕ → NoteRuns) (e : ℕ) (ts : List Transfer) (t : ℕ) (y : Transfer) → slice_get ts t ≡ Some y → y.endpoint ≢ e → out_plain note e (set ts t (gone y)) ≡ out_plain note e ts
plain_other note e [] t y here differs = absurd (cc)
plain_other note e (z ∷ zs) zero y here differs =
    let is : z ≡ y = same_Some z y here in
    ap (λ (xs : List ℕ). xs ++ out_plain note e zs) (none_of_gone note e y ∙ sym (ap (out_of_transfer note e 0) is ∙ none_of note e y differs))
plain_other note e (z ∷ zs) (suc t) y here differs = ap (λ (xs : List ℕ). out_of_transfer note e 0 z ++ xs) (plain_other note e zs t y here differs)
