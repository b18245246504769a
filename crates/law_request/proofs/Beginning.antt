-- The SETUP: its request begins, with a data stage or with its status.
use Rattle.std.proofs.Common.{◌≡◌, ℕ, ◌-◌, ◌==◌, ◌&&◌, Bool, true, false, not, if◌then◌else◌, List, [], ◌++◌, length, inl, Some, refl, sym, ap, ◌∙◌, subst, arith}
use Rattle.std.proofs.Math.Bool.{false≢true}
use Rattle.std.proofs.lemmas.Bool.{eqb-true}
use Rattle.law_common.proofs.Lists.{no_bytes}
use Rattle.law_request.proofs.Common.{nothing_sent}
use Rattle.usb_base.specs.declared.packets.Pid.TheVariants as Pids
use Rattle.dev_control.specs.declared.rows.StageRow.TheVariants.{Begins, Ignores}
use Rattle.dev_control.specs.Stages.{Stages, is_read, wanted_of, begun_with}
use Rattle.toggle_error.specs.declared.host.HostSide.{HostSide}
use Rattle.toggle_error.specs.declared.rows.PlainRow.TheVariants.{Failed}
use Rattle.toggle_error.specs.PlainRows.{moved_out}
use Rattle.transactions.specs.Calls.{Call, high_call}
use Rattle.bus_wire.specs.declared.asked.Losses.{Losses}
use Rattle.claims_report.specs.Requests.{Request, read_with}
use Rattle.law_request.specs.Host.{Endpoint, Setup, Data, Status, Host, host_in, endpoint_pipe, goes_on, next_stage}
use Rattle.law_request.specs.Line.{made}
use Rattle.law_request.specs.Windows.{IsRequest, data_of}
use Rattle.law_request.specs.Standing.{Sight, sight_of, Moves, Stands}
use Rattle.law_request.proofs.Hearing.{line, IsKept, made_stands, quiet_row, stands_quiet}
use Rattle.law_request.proofs.Rows.{ignores_kept}

-- ---- the stage after the SETUP

nothing_with : (e : Endpoint) (r : Request) (read : Bool) → IsRequest r → is_read r.setup ≡ read → wanted_of r.setup ≡ 0 → (if read then read_with r.setup (e.known r.setup) else r.bytes) ≡ []
nothing_with e r true q i h = nothing_sent r (e.known r.setup) h
nothing_with e r false q i h = no_bytes r.bytes (q.bytes i ∙ h)

-- a request with a wLength of 0 has no data
nothing : (e : Endpoint) (r : Request) → IsRequest r → wanted_of r.setup ≡ 0 → data_of e r ≡ []
nothing e r q h = nothing_with e r (is_read r.setup) q refl h

begun_moves : (e : Endpoint) (r : Request) (v : Sight) (read : Bool) → IsRequest r → is_read r.setup ≡ read → v.moved ≡ [] → v.acts ≡ [] → v.request ≡ Some (begun_with r.setup)
    → v.toggle ≡ true → v.left ≡ wanted_of r.setup → v.active ≡ true → Moves read e r v
begun_moves e r v true q i moved acts under toggle left active = record {
  at = 0;
  turn = true;
  under = under;
  acts = acts;
  active = active;
  later = data_of e r;
  whole = ap (λ m. m ++ data_of e r) moved;
  left = omega (arith, left, ap length moved);
  near = inl (sym (ap length moved), toggle);
}
begun_moves e r v false q i moved acts under toggle left active = record {
  at = 0;
  turn = true;
  under = under;
  acts = acts;
  active = active;
  later = r.bytes;
  whole = ap (λ m. m ++ r.bytes) moved;
  left = left ∙ sym (q.bytes i);
  near = inl (sym (ap length moved), toggle);
}

begun : (e : Endpoint) (r : Request) (ping empty : Bool) (moved : List ℕ) (c : Stages) (a : List (List ℕ)) → IsRequest r → (wanted_of r.setup == 0) ≡ empty → moved ≡ [] → a ≡ []
    → c.max ≡ e.max → c.request ≡ Some (begun_with r.setup) → Stands e r (line (host_in r e.max ping (if not empty then Data else Status) moved) c a)
begun e r ping false moved c a q w m k size under = record {
  host_max = refl;
  device_max = size;
  stage = record { wanted = w; way = begun_moves e r (sight_of (line (host_in r e.max ping Data moved) c a)) (is_read r.setup) q refl m k under refl refl refl };
}
begun e r ping true moved c a q w m k size under = record {
  host_max = refl;
  device_max = size;
  stage = record {
    at = 0;
    turn = true;
    done = false;
    under = under;
    moved = m ∙ sym (nothing e r q (eqb-true (wanted_of r.setup) 0 w));
    toggle = refl;
    left = refl;
    acts = inl (refl, k);
  };
}

-- ---- the transaction

ends_at : (left n : ℕ) (active : Bool) → left ≡ 8 → n ≡ 8 → (not (left - n == 0) && active) ≡ false
ends_at left n active h k = ap (λ x. not (x - n == 0) && active) h ∙ ap (λ x. not (8 - x == 0) && active) k

went_on : (e : Endpoint) (r : Request) (b : Bool) (side : HostSide) (h : Host) (moved : List ℕ) (c : Stages) (a : List (List ℕ)) → h.stage ≡ Setup → b ≡ false → side.max ≡ e.max
    → IsRequest r → moved ≡ [] → a ≡ [] → c.max ≡ e.max → c.request ≡ Some (begun_with r.setup) → Stands e r (line (goes_on r b side moved h) c a)
went_on e r true side h moved c a st b size q m k cm under = absurd (false≢true (sym b))
went_on e r false side h moved c a st b size q m k cm under =
    subst (λ x. Stands e r (line (host_in r side.max side.ping (next_stage r x) moved) c a)) (sym st)
    (subst (λ n. Stands e r (line (host_in r n side.ping (next_stage r Setup) moved) c a)) (sym size)
    (begun e r side.ping (wanted_of r.setup == 0) moved c a q refl m k cm under))

abbrev setup_call : Endpoint → Request → HostSide → Call
setup_call e r side = high_call (endpoint_pipe e Pids.Setup) side r.setup

abbrev setup_host : HostSide → List ℕ → Host
setup_host side moved = record { stage = Setup; side = side; moved = moved }

begins_kept : (e : Endpoint) (r : Request) (side : HostSide) (moved : List ℕ) (c : Stages) (a : List (List ℕ)) → IsRequest r → Stands e r (line (setup_host side moved) c a)
    → IsKept e r (setup_call e r side) (setup_host side moved) c a (Begins r.setup)
begins_kept e r side moved c a q s =
    let d : Stages = record c { request = Some (begun_with r.setup) } in
    let t : Stands e r (line (setup_host side moved) d a) = record { host_max = s.host_max; device_max = s.device_max; stage = record { moved = s.stage.moved; left = s.stage.left; acts = s.stage.acts } } in
    record {
      unheard = stands_quiet e r (setup_host side moved) _ d a (quiet_row r Failed _ (setup_host side moved) refl) t;
      heard = went_on e r (moved_out (length r.setup) false side).active (moved_out (length r.setup) false side) (setup_host side moved) moved d a refl
          (ends_at side.left (length r.setup) side.active s.stage.left q.setup) s.host_max q s.stage.moved s.stage.acts s.device_max refl;
      told = λ k. absurd (false≢true k);
    }

setup_kept : (e : Endpoint) (r : Request) (side : HostSide) (moved : List ℕ) (c : Stages) (a : List (List ℕ)) (eight : Bool) → IsRequest r → Stands e r (line (setup_host side moved) c a)
    → IsKept e r (setup_call e r side) (setup_host side moved) c a (if eight then Begins r.setup else Ignores)
setup_kept e r side moved c a true q s = begins_kept e r side moved c a q s
setup_kept e r side moved c a false q s = ignores_kept e r (setup_call e r side) (setup_host side moved) c a s (quiet_row r Failed _ (setup_host side moved) refl)

pub setup_keeps : (e : Endpoint) (r : Request) (losses : Losses) (side : HostSide) (moved : List ℕ) (c : Stages) (a : List (List ℕ)) → IsRequest r
    → Stands e r (line (setup_host side moved) c a) → Stands e r (made e r losses (setup_call e r side) (line (setup_host side moved) c a))
setup_keeps e r losses side moved c a q s =
    made_stands e r losses (setup_call e r side) (setup_host side moved) c a
    (stands_quiet e r (setup_host side moved) _ c a (quiet_row r Failed _ (setup_host side moved) refl) s)
    (setup_kept e r side moved c a (length r.setup == 8) q s)
