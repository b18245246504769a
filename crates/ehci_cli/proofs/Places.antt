-- The endpoints of a load script fit the budgets together, wherever they are placed.
use Rattle.std.proofs.Common.{◌≡◌, ℕ, zero, suc, ◌+◌, ◌-◌, ◌*◌, ◌/◌, ◌%◌, ◌^◌, ◌≤◌, ◌<◌, Bool, true, false, List, [], ◌∷◌, map}
use Rattle.std.proofs.Common.{slice_get, Option, Some, None, refl, ap, sym, subst, ◌∙◌, inl, inr, arith}
use Rattle.std.specs.List.{AllByRecursion, range_with_len, cons_option}
use Rattle.std.specs.Prelude.{sum_by, nat_lt, nat_eq, nat_le, ◌&&◌, if◌then◌else◌, slice_index}
use Rattle.std.proofs.lemmas.Bool.{cond_both, cond-false, cases_Bool, cases_eq, ne_eqb, leb-true, ltb-false, le-ltb, and_left}
use Rattle.std.proofs.lemmas.List.Sums.{sum_by-cons}
use Rattle.usb_base.specs.Cost.{bus_time, byte_times}
use Rattle.usb_base.specs.Limits.{byte_times_of_microframe, microframe_budget, frame_budget}
use Rattle.usb_base.specs.declared.endpoints.EpDesc.{EpDesc}
use Rattle.usb_base.specs.declared.packets.Dir.{Dir}
use Rattle.usb_base.specs.declared.packets.EpKind.TheVariants as kinds
use Rattle.usb_base.specs.declared.packets.Speed.{Speed}
use Rattle.usb_base.specs.declared.packets.Speed.TheVariants as speeds
use Rattle.usb_base.specs.declared.rules.Rules.{Rules}
use Rattle.bandwidth.specs.declared.placements.Placement.{Placement}
use Rattle.bandwidth.specs.declared.placements.Want.{Want}
use Rattle.bandwidth.specs.Placements.{allowed, allowed_by, placement_at}
use Rattle.bandwidth.specs.Sums.{is_hub}
use Rattle.drv_periodic_table.specs.Periodic.{is_periodic, want_of, dir_of}
use Rattle.usb_base.specs.declared.commands.Cmd.{Cmd}
use Rattle.usb_base.specs.declared.commands.Cmd.TheVariants as commands
use Rattle.script_types.specs.declared.scripts.Line.{Line}
use Rattle.script_types.specs.declared.scripts.Line.TheVariants as lines
use Rattle.script_types.specs.declared.scripts.Script.{Script}
use Rattle.script_fits.proofs.Texts.{spelled_fits}
use Rattle.script_text.specs.Faults.{Spells}
use Rattle.script_load.specs.Load.{address, is_in, period, draws, load_text}
use Rattle.script_load.proofs.Said.{way_of, hub_number}
use Rattle.script_load.proofs.Drafts.{kind_as, max_as, period_as, site_speed, site_hub, load_desc, opened_by as drawn_by}
use Rattle.script_load.proofs.Drafts.{opens_of as drawn_opens}
use Rattle.script_load.proofs.Texts.{load_scripts_open_all}
use Rattle.law_reports.specs.answers.Together.{if_placed, most_cost, own_time, own_bytes, is_below, IsPlaceIn, HasPlace, FitTogether}
use Rattle.law_reports.specs.answers.Together.{opened_by, opens_of}
use Rattle.law_reports.proofs.lemmas.answers.Placing.{fitting_opens_have_places}
use Rattle.claims_world.specs.Places.{OpensHavePlaces}
use Rattle.app_forms.specs.Form.{AreWordsOf}
use Rattle.app_forms.specs.declared.form.Form.TheVariants.{Load}

-- ---- an allowed placement

interrupt_want : ℕ → Dir → ℕ → Option ℕ → ℕ → Want
interrupt_want n dir max hub period =
    record { id = n; speed = speeds.Full; kind = kinds.Interrupt; dir = dir; max = max; multi = 1; period = period; hub = hub; tt = 0 }

first_place : (rules : Rules) (n : ℕ) (dir : Dir) (max : ℕ) (hub : Option ℕ) (y : ℕ) → y < 4
    → slice_get (allowed_by rules (interrupt_want n dir max hub (8 * 2 ^ y))) 0 ≡ Some
    (placement_at (interrupt_want n dir max hub (8 * 2 ^ y)) 0 0)
unfolding allowed_by allowed interrupt_want
first_place rules n dir max hub zero lt = refl
first_place rules n dir max hub (suc zero) lt = refl
first_place rules n dir max hub (suc (suc zero)) lt = refl
first_place rules n dir max hub (suc (suc (suc zero))) lt = refl
first_place rules n dir max hub (suc (suc (suc (suc y)))) lt = absurd (omega (arith, lt))

abbrev want_as : ℕ → Bool → Bool → Speed → Option ℕ → ℕ → Want
want_as n c b sp hub y = record {
  id = n;
  speed = sp;
  kind = kind_as c b;
  dir = dir_of (way_of b);
  max = max_as c b;
  multi = 1;
  period = period_as c b (8 * 2 ^ y);
  hub = hub;
  tt = 0;
}

record IsFirst (rules : Rules) (w : Want) : Type 0 where
  placement : Placement
  here : slice_get (allowed_by rules w) 0 ≡ Some placement

place_for : (rules : Rules) (n : ℕ) (c b : Bool) (sp : Speed) (hub : Option ℕ) (y : ℕ) → y < 4 → (c ≡ false → sp ≡ speeds.Full)
    → is_periodic (kind_as c b) ≡ true
    → IsFirst rules (want_as n c b sp hub y)
unfolding interrupt_want
place_for rules n true b sp hub y lt full e = cc
place_for rules n false false sp hub y lt full e = cc
place_for rules n false true sp hub y lt full e =
    subst (λ (v : Speed). IsFirst rules (want_as n false true v hub y)) (sym (full refl))
    (record {
      placement = placement_at (interrupt_want n (dir_of (way_of true)) 8 hub (8 * 2 ^ y)) 0 0;
      here = first_place rules n (dir_of (way_of true)) 8 hub y lt;
    })

late_is_full : (i : ℕ) → nat_lt i 20 ≡ false → site_speed (address i) ≡ speeds.Full
late_is_full i e = cond-false (nat_lt (address i) 11) speeds.High speeds.Full (le-ltb (address i) 11 (omega (arith, ltb-false i 20 e)))

place_of : (ds : List ℕ) (i : ℕ) → HasPlace (load_desc ds i)
place_of ds i = λ rules n e.
    let p = place_for rules n (nat_lt i 20) (is_in i) (site_speed (address i)) (site_hub (address i)) (slice_index ds (address i - 11) % 4)
    (omega arith) (late_is_full i) e in
    record { index = 0; placement = p.placement; here = p.here }

places_of : (ds is : List ℕ) → AllByRecursion HasPlace (map (load_desc ds) is)
places_of ds [] = tt
places_of ds (i ∷ is) = (place_of ds i, places_of ds is)

-- ---- sums

less_each : (f g : EpDesc → ℕ) → ((x : EpDesc) → f x ≤ g x) → (xs : List EpDesc) → sum_by f xs ≤ sum_by g xs
less_each f g le [] = omega arith
less_each f g le (x ∷ xs) = omega (arith, sum_by-cons f x xs, sum_by-cons g x xs, le x, less_each f g le xs)

placed_less : (f g : EpDesc → ℕ) → ((x : EpDesc) → f x ≤ g x) → (xs : List EpDesc) → sum_by (if_placed f) xs ≤ sum_by (if_placed g) xs
placed_less f g le =
    less_each (if_placed f) (if_placed g)
    (λ x. cond_both (is_periodic x.kind) (f x) 0 (λ n. n ≤ if_placed g x)
    (λ t. subst (λ (b : Bool). f x ≤ (if b then g x else 0)) (sym t) (le x)) (λ _. omega arith))

abbrev any_time : EpDesc → ℕ
any_time x = bus_time x.speed x.kind (dir_of x.name.way) x.max

-- whatever the port is
abbrev hub_bytes : ℕ → EpDesc → ℕ
hub_bytes hub x = if is_hub x.hub hub then byte_times x.speed x.kind x.max else 0

time_less : (hub port : ℕ) (x : EpDesc) → own_time hub port x ≤ any_time x
time_less hub port x = cond_both (is_below hub port x) (any_time x) 0 (λ n. n ≤ any_time x) (λ _. omega arith) (λ _. omega arith)

bytes_less : (hub port : ℕ) (x : EpDesc) → own_bytes hub port x ≤ hub_bytes hub x
bytes_less hub port x =
    cond_both (is_hub x.hub hub) (byte_times x.speed x.kind x.max) 0 (λ n. own_bytes hub port x ≤ n)
    (λ _. cond_both (is_below hub port x) (byte_times x.speed x.kind x.max) 0 (λ n. n ≤ byte_times x.speed x.kind x.max) (λ _. omega arith)
    (λ _. omega arith))
    (λ f.
    let none : own_bytes hub port x ≡ 0 =
    cond-false (is_below hub port x) (byte_times x.speed x.kind x.max) 0 (and_left (is_hub x.hub hub) (nat_eq x.tt port) f) in
    omega (arith, none))

module _ (ds : List ℕ) where
  abbrev all : List EpDesc
  all = map (load_desc ds) (range_with_len 0 40)

  all_cost : sum_by (if_placed most_cost) (map (load_desc ds) (range_with_len 0 40)) ≤ microframe_budget
  all_cost = leb-true _ _ refl

  all_time : sum_by (if_placed any_time) (map (load_desc ds) (range_with_len 0 40)) ≤ frame_budget
  all_time = leb-true _ _ refl

  first_bytes : sum_by (if_placed (hub_bytes 101)) (map (load_desc ds) (range_with_len 0 40)) ≤ byte_times_of_microframe
  first_bytes = leb-true _ _ refl

  second_bytes : sum_by (if_placed (hub_bytes 102)) (map (load_desc ds) (range_with_len 0 40)) ≤ byte_times_of_microframe
  second_bytes = leb-true _ _ refl

  none_each : (g : EpDesc → ℕ) (is : List ℕ) → ((i : ℕ) → g (load_desc ds i) ≡ 0) → sum_by (if_placed g) (map (load_desc ds) is) ≡ 0
  none_each g [] none = refl
  none_each g (i ∷ is) none =
      let here : if_placed g (load_desc ds i) ≡ 0 =
      cond_both (is_periodic (load_desc ds i).kind) (g (load_desc ds i)) 0 (λ n. n ≡ 0) (λ _. none i) (λ _. refl) in
      omega (arith, sum_by-cons (if_placed g) (load_desc ds i) (map (load_desc ds) is), here, none_each g is none)

  other_hub : (hub a : ℕ) → (101 ≡ hub → ⊥) → (102 ≡ hub → ⊥) → is_hub (site_hub a) hub ≡ false
  other_hub hub a first second =
      cond_both (nat_lt a 11) None (Some (hub_number (nat_lt a 16))) (λ (o : Option ℕ). is_hub o hub ≡ false) (λ _. refl)
      (λ _. by (nat_lt a 16))
    where
      by : (b : Bool) → is_hub (Some (hub_number b)) hub ≡ false
      by true = ne_eqb 101 hub first
      by false = ne_eqb 102 hub second

  no_bytes : (hub : ℕ) → (101 ≡ hub → ⊥) → (102 ≡ hub → ⊥)
      → sum_by (if_placed (hub_bytes hub)) (map (load_desc ds) (range_with_len 0 40)) ≡ 0
  no_bytes hub first second =
      none_each (hub_bytes hub) (range_with_len 0 40)
      (λ i. cond-false (is_hub (site_hub (address i)) hub) _ 0 (other_hub hub (address i) first second))

  abbrev FitsBelow : ℕ → Type 0
  FitsBelow hub = sum_by (if_placed (hub_bytes hub)) (map (load_desc ds) (range_with_len 0 40)) ≤ byte_times_of_microframe

  all_bytes : (hub : ℕ) → sum_by (if_placed (hub_bytes hub)) (map (load_desc ds) (range_with_len 0 40)) ≤ byte_times_of_microframe
  all_bytes hub =
      elim (cases_eq 101 hub) [
        | inl e ↦ subst FitsBelow e first_bytes
        | inr first ↦ elim (cases_eq 102 hub) [
          | inl e ↦ subst FitsBelow e second_bytes
          | inr second ↦ omega (arith, no_bytes hub first second)
        ]
      ]

  pub load_endpoints_fit : FitTogether (map (load_desc ds) (range_with_len 0 40))
  load_endpoints_fit = record {
    loads = all_cost;
    frames = λ hub port _ _.
        omega (arith, placed_less (own_time hub port) any_time (time_less hub port) (map (load_desc ds) (range_with_len 0 40)), all_time);
    bytes = λ hub port _ _.
        omega (
          arith,
          placed_less (own_bytes hub port) (hub_bytes hub) (bytes_less hub port) (map (load_desc ds) (range_with_len 0 40)),
          all_bytes hub,
        );
    places = places_of ds (range_with_len 0 40);
  }

-- ---- the script that is drawn

opened_same : (l : Line) → opened_by l ≡ drawn_by l
opened_same (lines.Command (commands.OpenEp x)) = refl
opened_same (lines.Command (commands.Get name len by)) = refl
opened_same (lines.Command (commands.Put name bytes by)) = refl
opened_same (lines.Command (commands.Control name setup bytes)) = refl
opened_same (lines.Command (commands.Iso name count len seed)) = refl
opened_same (lines.Command (commands.Cancel name)) = refl
opened_same (lines.Command (commands.Clear name)) = refl
opened_same (lines.Command (commands.Reset port)) = refl
opened_same (lines.Command (commands.Give port)) = refl
opened_same (lines.Command (commands.DiskRead addr lba count)) = refl
opened_same (lines.Command (commands.DiskWrite addr lba bytes)) = refl
opened_same (lines.Command (commands.Revive addr)) = refl
opened_same (lines.Order event count) = refl
opened_same (lines.Micro count) = refl
opened_same (lines.Plug port) = refl
opened_same (lines.Unplug port) = refl

opens_same : (ls : List (ℕ × Line)) → opens_of ls ≡ drawn_opens ls
opens_same [] = refl
opens_same (l ∷ ls) =
    ap (λ (o : Option EpDesc). cons_option o (opens_of ls)) (opened_same l.1) ∙ ap (cons_option (drawn_by l.1)) (opens_same ls)

pub load_has_places : (words : List (List ℕ)) (n : ℕ) → AreWordsOf words (Load n) → (s : Script) → Spells (load_text n) s
    → OpensHavePlaces s
load_has_places words n is s spelled =
    fitting_opens_have_places s (spelled_fits (load_text n) s spelled)
    (subst FitTogether (sym (opens_same s.lines ∙ load_scripts_open_all n s spelled)) (load_endpoints_fit (draws n 90)))
