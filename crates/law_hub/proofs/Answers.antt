-- What the answer to a request says of its setup bytes: a change has no data, a read has four bytes.
use Rattle.std.proofs.Common.{◌≡◌, ℕ, Bool, true, false, List, [], ◌∷◌, length, Option, Some, None, refl, sym, ap, ◌≤◌, ◌⊎◌, inl, inr, if◌then◌else◌, arith}
use Rattle.std.proofs.lemmas.Bool.{eqb-true, le-leb}
use Rattle.std.specs.Prelude.{nat_le, ◌==◌, ◌&&◌}
use Rattle.hub_ports.specs.declared.port.Port.{Port}
use Rattle.hub_ports.specs.declared.requests.SetupFields.{SetupFields}
use Rattle.hub_ports.specs.declared.rows.ClassRequest.{ClassRequest}
use Rattle.hub_ports.specs.declared.rows.ClassRequest.TheVariants.{GetHubStatus, GetPortStatus, SetPortFeature, ClearPortFeature, ClearTtBuffer, ResetTt}
use Rattle.hub_ports.specs.declared.rows.HubReply.TheVariants.{Bytes, Done}
use Rattle.hub_ports.specs.declared.rows.HubRequest.{HubRequest}
use Rattle.hub_ports.specs.declared.rows.HubRequest.TheVariants.{HubStatus, PortStatus, ChangePort, ClearBuffer, ResetTranslator}
use Rattle.hub_ports.specs.declared.rows.PortChange.{PortChange}
use Rattle.hub_ports.specs.Ports.{status_bytes, status_of, port_at, reply_of}
use Rattle.hub_ports.specs.Requests.{fields_of, class_request, set_feature, clear_feature, buffer_key, at_port, change_at, translators_of, clear_at, request_by, request_with}
use Rattle.dev_control.specs.Stages.{is_read, wanted_of}
use Rattle.hub_keys.specs.declared.key.Key.{Key}
use Rattle.hub_class.specs.HubContent.{HubContent}
use Rattle.hub_class.specs.Requesting.{reply_if, request_answer}

-- ---- a change

status_not_done : (o : Option Port) → status_of o ≡ Done → ⊥
status_not_done None e = absurd cc
status_not_done (Some p) e = absurd cc

hub_status_not_done : (a b : Bool) (h : HubContent) → reply_if (if a then (if b then Some HubStatus else None) else None) h ≡ Done → ⊥
hub_status_not_done true true h e = absurd cc
hub_status_not_done true false h e = absurd cc
hub_status_not_done false b h e = absurd cc

port_status_not_done : (a b c : Bool) (port : ℕ) (h : HubContent)
    → reply_if (if a then (if b then (if c then Some (PortStatus port) else None) else None) else None) h ≡ Done → ⊥
port_status_not_done true true true port h e = status_not_done (port_at port h.ports) e
port_status_not_done true true false port h e = absurd cc
port_status_not_done true false c port h e = absurd cc
port_status_not_done false b c port h e = absurd cc

length_if : (b : Bool) (n : ℕ) (request : Option HubRequest) (h : HubContent) → (n == 0) ≡ b
    → reply_if (if b then request else None) h ≡ Done → n ≡ 0
length_if true n request h e f = eqb-true n 0 e
length_if false n request h e f = absurd cc

done_length : (class : Option ClassRequest) (multi : Bool) (ports : ℕ) (f : SetupFields) (h : HubContent)
    → reply_if (request_with class multi ports f) h ≡ Done → f.length ≡ 0
done_length None multi ports f h e = absurd cc
done_length (Some GetHubStatus) multi ports f h e = absurd (hub_status_not_done (f.length == 4) (f.value == 0 && f.index == 0) h e)
done_length (Some GetPortStatus) multi ports f h e =
    absurd (port_status_not_done (f.length == 4) (f.value == 0) (nat_le 1 f.index && nat_le f.index ports) f.index h e)
done_length (Some SetPortFeature) multi ports f h e =
    length_if (f.length == 0) f.length (request_by SetPortFeature multi ports f.value f.index) h refl e
done_length (Some ClearPortFeature) multi ports f h e =
    length_if (f.length == 0) f.length (request_by ClearPortFeature multi ports f.value f.index) h refl e
done_length (Some ClearTtBuffer) multi ports f h e =
    length_if (f.length == 0) f.length (request_by ClearTtBuffer multi ports f.value f.index) h refl e
done_length (Some ResetTt) multi ports f h e = length_if (f.length == 0) f.length (request_by ResetTt multi ports f.value f.index) h refl e

pub change_has_no_data : (setup : List ℕ) (h : HubContent) → request_answer setup h ≡ Done → wanted_of setup ≡ 0
change_has_no_data setup h e =
    let f : SetupFields = fields_of setup in
    done_length (class_request f.kind f.request) h.translators.multi (length h.ports) f h e

-- ---- a read

pub record ReadsFour (setup bytes : List ℕ) : Type 0 where
  pub reads : is_read setup ≡ true
  pub wants : wanted_of setup ≡ 4
  pub has : length bytes ≡ 4

record IsFour (class : Option ClassRequest) (wants : ℕ) (bytes : List ℕ) : Type 0 where
  class_is : (class ≡ Some GetHubStatus) ⊎ (class ≡ Some GetPortStatus)
  wants_is : wants ≡ 4
  has_is : length bytes ≡ 4

same_bytes : (x y : List ℕ) → Bytes x ≡ Bytes y → x ≡ y
same_bytes x y e = cc

four_of_status : (o : Option Port) (bytes : List ℕ) → status_of o ≡ Bytes bytes → length bytes ≡ 4
four_of_status None bytes e = absurd cc
four_of_status (Some p) bytes e = ap length (sym (same_bytes (status_bytes p) bytes e))

four_of_hub : (a b : Bool) (n : ℕ) (h : HubContent) (bytes : List ℕ) → (n == 4) ≡ a
    → reply_if (if a then (if b then Some HubStatus else None) else None) h ≡ Bytes bytes → IsFour (Some GetHubStatus) n bytes
four_of_hub true true n h bytes e f =
    record { class_is = inl refl; wants_is = eqb-true n 4 e; has_is = ap length (sym (same_bytes (0 ∷ 0 ∷ 0 ∷ 0 ∷ []) bytes f)) }
four_of_hub true false n h bytes e f = absurd cc
four_of_hub false b n h bytes e f = absurd cc

four_of_port : (a b c : Bool) (n port : ℕ) (h : HubContent) (bytes : List ℕ) → (n == 4) ≡ a
    → reply_if (if a then (if b then (if c then Some (PortStatus port) else None) else None) else None) h ≡ Bytes bytes
    → IsFour (Some GetPortStatus) n bytes
four_of_port true true true n port h bytes e f =
    record { class_is = inr refl; wants_is = eqb-true n 4 e; has_is = four_of_status (port_at port h.ports) bytes f }
four_of_port true true false n port h bytes e f = absurd cc
four_of_port true false c n port h bytes e f = absurd cc
four_of_port false b c n port h bytes e f = absurd cc

-- a request that answers without bytes
no_bytes : (a b : Bool) (request : HubRequest) (h : HubContent) (bytes : List ℕ) → reply_of request h.ports ≡ Done
    → reply_if (if a then (if b then Some request else None) else None) h ≡ Bytes bytes → ⊥
no_bytes true true request h bytes d e = cc
no_bytes true false request h bytes d e = cc
no_bytes false b request h bytes d e = cc

change_no_bytes : (a : Bool) (ports index : ℕ) (change : Option PortChange) (h : HubContent) (bytes : List ℕ)
    → reply_if (if a then change_at ports index change else None) h ≡ Bytes bytes → ⊥
change_no_bytes a ports index (Some change) h bytes e =
    no_bytes a (nat_le 1 index && nat_le index ports) (ChangePort index change) h bytes refl e
change_no_bytes true ports index None h bytes e = cc
change_no_bytes false ports index None h bytes e = cc

clear_no_bytes : (a : Bool) (translators index : ℕ) (key : Option Key) (h : HubContent) (bytes : List ℕ)
    → reply_if (if a then clear_at translators index key else None) h ≡ Bytes bytes → ⊥
clear_no_bytes a translators index (Some key) h bytes e =
    no_bytes a (nat_le 1 index && nat_le index translators) (ClearBuffer index key) h bytes refl e
clear_no_bytes true translators index None h bytes e = cc
clear_no_bytes false translators index None h bytes e = cc

reset_no_bytes : (a b : Bool) (translators index : ℕ) (h : HubContent) (bytes : List ℕ)
    → reply_if (if a then (if b then at_port translators index (ResetTranslator index) else None) else None) h ≡ Bytes bytes → ⊥
reset_no_bytes true true translators index h bytes e =
    no_bytes true (nat_le 1 index && nat_le index translators) (ResetTranslator index) h bytes refl e
reset_no_bytes true false translators index h bytes e = cc
reset_no_bytes false b translators index h bytes e = cc

four : (class : Option ClassRequest) (multi : Bool) (ports : ℕ) (f : SetupFields) (h : HubContent) (bytes : List ℕ)
    → reply_if (request_with class multi ports f) h ≡ Bytes bytes → IsFour class f.length bytes
four None multi ports f h bytes e = absurd cc
four (Some GetHubStatus) multi ports f h bytes e = four_of_hub (f.length == 4) (f.value == 0 && f.index == 0) f.length h bytes refl e
four (Some GetPortStatus) multi ports f h bytes e =
    four_of_port (f.length == 4) (f.value == 0) (nat_le 1 f.index && nat_le f.index ports) f.length f.index h bytes refl e
four (Some SetPortFeature) multi ports f h bytes e = absurd (change_no_bytes (f.length == 0) ports f.index (set_feature f.value) h bytes e)
four (Some ClearPortFeature) multi ports f h bytes e =
    absurd (change_no_bytes (f.length == 0) ports f.index (clear_feature f.value) h bytes e)
four (Some ClearTtBuffer) multi ports f h bytes e =
    absurd (clear_no_bytes (f.length == 0) (translators_of multi ports) f.index (buffer_key f.value) h bytes e)
four (Some ResetTt) multi ports f h bytes e =
    absurd (reset_no_bytes (f.length == 0) (f.value == 0) (translators_of multi ports) f.index h bytes e)

-- the class of a read is that of a first byte with bit 7
abbrev class_by : Bool → Bool → Bool → Bool → Bool → Bool → Option ClassRequest
class_by a b c d e f =
    if a then Some GetHubStatus else
    (if b then Some GetPortStatus else
    (if c then Some SetPortFeature else
    (if d then Some ClearPortFeature else
    (if e then Some ClearTtBuffer else
    (if f then Some ResetTt else None)))))

hub_row : (a b c d e f : Bool) → class_by a b c d e f ≡ Some GetHubStatus → a ≡ true
hub_row true b c d e f h = refl
hub_row false true c d e f h = absurd cc
hub_row false false true d e f h = absurd cc
hub_row false false false true e f h = absurd cc
hub_row false false false false true f h = absurd cc
hub_row false false false false false true h = absurd cc
hub_row false false false false false false h = absurd cc

port_row : (a b c d e f : Bool) → class_by a b c d e f ≡ Some GetPortStatus → b ≡ true
port_row true b c d e f h = absurd cc
port_row false true c d e f h = refl
port_row false false true d e f h = absurd cc
port_row false false false true e f h = absurd cc
port_row false false false false true f h = absurd cc
port_row false false false false false true h = absurd cc
port_row false false false false false false h = absurd cc

and_first : (a b : Bool) → (a && b) ≡ true → a ≡ true
and_first true b e = refl
and_first false b e = absurd cc

bit_7 : (kind n : ℕ) → 128 ≤ n → (kind == n) ≡ true → nat_le 128 kind ≡ true
bit_7 kind n h e = let k : kind ≡ n = eqb-true kind n e in le-leb 128 kind (omega arith)

kind_of_read : (kind request : ℕ)
    → ((class_request kind request ≡ Some GetHubStatus) ⊎ (class_request kind request ≡ Some GetPortStatus)) → nat_le 128 kind ≡ true
kind_of_read kind request (inl e) =
    bit_7 kind 160 (omega arith) (and_first (kind == 160) (request == 0) (hub_row (kind == 160 && request == 0) (kind == 163 && request == 0) (kind == 35 && request == 3) (kind == 35 && request == 1) (kind == 35 && request == 8) (kind == 35 && request == 9) e))
kind_of_read kind request (inr e) =
    bit_7 kind 163 (omega arith) (and_first (kind == 163) (request == 0) (port_row (kind == 160 && request == 0) (kind == 163 && request == 0) (kind == 35 && request == 3) (kind == 35 && request == 1) (kind == 35 && request == 8) (kind == 35 && request == 9) e))

pub read_has_four : (setup bytes : List ℕ) (h : HubContent) → request_answer setup h ≡ Bytes bytes → ReadsFour setup bytes
read_has_four setup bytes h e =
    let f : SetupFields = fields_of setup in
    let r : IsFour (class_request f.kind f.request) f.length bytes = four (class_request f.kind f.request) h.translators.multi (length h.ports) f h bytes e in
    record { reads = kind_of_read f.kind f.request r.class_is; wants = r.wants_is; has = r.has_is }
