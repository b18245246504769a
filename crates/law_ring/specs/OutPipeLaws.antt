-- Which queue heads ask an endpoint.
--     IsOnlyEndpoint ..         the queue head at n is a high-speed member with this endpoint, and no other member sends it an OUT
use Rattle.std.specs.Prelude.{◌≡◌, ◌≢◌, ℕ, ◌⊎◌, Bool, true, Some}
use Rattle.qh_qtd.specs.declared.qtd.Qtd.{Qtd}
use Rattle.law_structures.specs.lent_structures.Structures.{Element, Structures, StructureSets}
use Rattle.law_ring.specs.Told.{Endpoint, HasEndpoint}

abbrev pub SendsNone : Structures → Type 0
SendsNone part = (a : ℕ) (t : Qtd) → part a ≡ Some (Element t) → t.token.active ≡ true → t.token.pid ≢ 0

-- another member has another endpoint, or sends nothing
pub record IsBeside (parts : StructureSets) (k : ℕ) (x : Endpoint) : Type 0 where
  pub endpoint : Endpoint
  pub named : HasEndpoint parts k endpoint
  pub apart : ((x.addr ≡ endpoint.addr → x.ep ≡ endpoint.ep → ⊥)) ⊎ SendsNone (parts k)

pub record IsOnlyEndpoint (stream : ℕ → ℕ → Bool) (member : ℕ → Bool) (parts : StructureSets) (n : ℕ) (x : Endpoint) : Type 0 where
  pub on : member n ≡ true
  pub streamed : stream x.addr x.ep ≡ true
  pub high : x.speed ≡ 2
  pub others : (k : ℕ) → member k ≡ true → k ≢ n → IsBeside parts k x
