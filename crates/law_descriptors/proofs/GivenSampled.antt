-- The worked driver has its owners and its list, and an iTD to give back.
use Rattle.std.proofs.Common.{◌≡◌, ℕ, zero, suc, ◌+◌, ◌<◌, ◌≤◌, Bool, true, false, if◌then◌else◌, [], ◌∷◌, slice_get, Some, None, inl, inr, ap, refl, sym, subst, ◌∙◌, arith}
use Rattle.std.specs.Prelude.{◌==◌}
use Rattle.std.proofs.lemmas.Bool.{true≢false, false≢true}
use Rattle.std.proofs.lemmas.Option.{same_Some}
use Rattle.law_common.proofs.Numbers.{other_number}
use Rattle.drv_periodic_table.specs.declared.content.Removed.TheVariants as removed
use Rattle.drv_table.specs.declared.content.Endpoint.{Endpoint}
use Rattle.drv_table.specs.declared.content.Transfer.{Transfer}
use Rattle.drv_table.specs.Kinds.{is_iso}
use Rattle.claims_driver.specs.Owners.{Owner, FrameList, Head, Described, EndpointRuns, TransferRuns, runs_of_endpoint, runs_of_transfer, endpoint_in, transfer_in, is_descriptor, ArePieces, IsDescribed, views_of}
use Rattle.claims_driver.specs.Leaving.{IsSteady, owes, HasOwners}
use Rattle.claims_driver.specs.FrameListMembers.{Placed, placed_in}
use Rattle.law_driver.specs.listed_members.Members.{StandsAs, IsListed}
use Rattle.law_driver.proofs.lemmas.listed_members.Opening.{opening_list_has_its_members}
use Rattle.op_registers.specs.RegisterFile.{RegisterFile}
use Rattle.word_mem.specs.Memory.{Mem}
use Rattle.law_frames.specs.Met.{Kind}
use Rattle.law_descriptors.specs.Meeting.{no_recent}
use Rattle.law_descriptors.specs.Recent.{AreRecent}
use Rattle.law_descriptors.specs.Returned.{IsGivenBack}
use Rattle.law_descriptors.specs.GivenWorked.{room, endpoint, transfer, driver}
use Rattle.law_descriptors.proofs.GivenRow.{row_gives_back_passed}

-- ---- there is one endpoint, and one transfer

pub only_endpoint : (e : ℕ) (x : Endpoint) → slice_get (endpoint ∷ []) e ≡ Some x → endpoint ≡ x
only_endpoint zero x here = same_Some endpoint x here
only_endpoint (suc e) x here = absurd (cc)

pub only_transfer : (t : ℕ) (y : Transfer) → slice_get (transfer ∷ []) t ≡ Some y → (t ≡ 0) × (transfer ≡ y)
only_transfer zero y here = (refl, same_Some transfer y here)
only_transfer (suc t) y here = absurd (cc)

-- ---- the owners

abbrev pub its_owner : ℕ → Owner
its_owner b = if b == 0 then FrameList else if b == 130 then Described false 0 else Head

steady : IsSteady endpoint
steady = record {
  ended = λ linked chained. absurd (true≢false chained);
  gone = λ on. absurd (false≢true on);
  ring = λ on. absurd (false≢true on);
  frames = λ on. refl;
  placed = refl;
}

pub bare : (e : ℕ) (x : EndpointRuns) → endpoint_in (endpoint ∷ []) e ≡ Some x → x.bare ≡ true
bare zero x there = ap (λ (z : EndpointRuns). z.bare) (sym (same_Some (runs_of_endpoint endpoint) x there))
bare (suc e) x there = absurd (cc)

pub only_runs : (t : ℕ) (y : TransferRuns) → transfer_in (transfer ∷ []) t ≡ Some y → (t ≡ 0) × (runs_of_transfer transfer ≡ y)
only_runs zero y there = (refl, same_Some (runs_of_transfer transfer) y there)
only_runs (suc t) y there = absurd (cc)

if_not : (b : Bool) → b ≡ false → ◌≡◌ {A = ℕ} (if b then 1 else 0) 0
if_not true off = absurd (true≢false off)
if_not false off = refl

owed_once : (t : ℕ) → 0 + ((if 0 == t then 1 else 0) + 0) ≤ owes (slice_get (transfer ∷ []) t)
owed_once zero = omega arith
owed_once (suc t) = let e : ◌≡◌ {A = ℕ} (if 0 == suc t then 1 else 0) 0 = if_not (0 == suc t) (other_number 0 (suc t) (λ same. cc)) in omega (arith, e)

sort_is : (y : Transfer) (x : Endpoint) → transfer ≡ y → slice_get (endpoint ∷ []) y.endpoint ≡ Some x → is_descriptor y.sort ≡ is_iso x.desc.kind
sort_is y x is here =
    ap (λ (z : Transfer). is_descriptor z.sort) (sym is)
    ∙ ap (λ (z : Endpoint). is_iso z.desc.kind) (only_endpoint 0 x (subst (λ (z : Transfer). slice_get (endpoint ∷ []) z.endpoint ≡ Some x) (sym is) here))

pub has_owners : HasOwners driver
has_owners = record {
  owner = its_owner;
  owned = record {
    each = record {
      list = record { owned = refl; run = refl };
      head = record { owned = refl; run = refl };
      queue = λ e x there on. absurd (true≢false (sym (bare e x there) ∙ on));
      dummy = λ e x there on. absurd (true≢false (sym (bare e x there) ∙ on));
      pieces = λ t y there on. subst (λ (z : TransferRuns). ArePieces (views_of driver).slot its_owner (views_of driver).note t z.first z.qtds) (only_runs t y there).1 tt;
      described = λ t y there iso on.
          let one = only_runs t y there in
          subst (λ (z : TransferRuns). IsDescribed (views_of driver).slot its_owner ((views_of driver).descriptor z.first) t z.first) one.1
          (subst (λ (u : ℕ). IsDescribed (views_of driver).slot its_owner ((views_of driver).descriptor 130) u 130) (sym one.0)
          (record { descriptor = record { owned = refl; run = refl }; buffers = tt }));
    };
    sizes = refl;
    as_many = refl;
  };
  orderly = record {
    harvests = owed_once;
    leaving = λ e. omega arith;
    removed = λ e. omega arith;
    steady = λ e x there. subst IsSteady (only_endpoint e x there) steady;
    within = λ t y there. subst (λ (z : Transfer). z.endpoint < 1) (only_transfer t y there).1 (omega arith);
    sorts = λ t y x there here. sort_is y x (only_transfer t y there).1 here;
    unlinked = λ t y some there. ap (λ (z : Transfer). is_descriptor z.sort) (sym (only_transfer t y there).1);
    untold = λ t y there back told x here. absurd (false≢true (ap (λ (z : Transfer). z.released) (only_transfer t y there).1 ∙ back));
    leaver = λ e x is here. absurd (cc);
  };
}

pub is_listed : IsListed driver
is_listed = record {
  list = record {
    list = refl;
    members = record { queues = tt; descriptors = tt; each = λ m s. absurd (none s.number s.placed s.here s.stands) };
    frames = λ b. (opening_list_has_its_members 2048 room).list.frames b;
    many = omega arith;
    room = omega arith;
    kept = λ e x here periodic off. ap (λ (z : Endpoint). z.chained) (sym (only_endpoint e x here));
  };
  way = record { work = refl; queued = refl };
}
  where
    reported : (p : Placed) → record { endpoint = 0; block = 130; waits = false } ≡ p → p.waits ≡ false
    reported p is = ap (λ (q : Placed). q.waits) (sym is)

    none : (t : ℕ) (p : Placed) → placed_in (endpoint ∷ []) (transfer ∷ []) t ≡ Some p → StandsAs driver t p → ⊥
    none t p here (inl among) = false≢true among
    none zero p here (inr waits) = false≢true (sym (reported p (same_Some (record { endpoint = 0; block = 130; waits = false }) p here)) ∙ waits.0)
    none (suc t) p here (inr waits) = cc

pub is_given_back : (c : RegisterFile) (m : Mem) → IsGivenBack (record { driver = driver; registers = c; memory = m }) (removed.Descriptor 0)
is_given_back c m = row_gives_back_passed (record { driver = driver; registers = c; memory = m }) (removed.Descriptor 0) refl

pub none_recent : (index : ℕ) → AreRecent driver index no_recent
none_recent index n kind is = absurd (nothing kind is)
  where
    nothing : (kind : Kind) → None ≡ Some kind → ⊥
    nothing kind e = cc
