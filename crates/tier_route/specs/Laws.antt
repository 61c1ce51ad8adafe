-- What follows for routes, in plain words.
use Rattle.std.specs.Prelude.{◌≡◌, ◌≢◌, ◌↔◌, ℕ, Bool, true, false}
use Rattle.obj_model.specs.declared.tier.Mode.{Mode}
use Rattle.obj_model.specs.declared.tier.Mode.TheVariants.{Proxy}
use Rattle.obj_model.specs.declared.tier.Path.TheVariants.{Hit, Promote, ProxyRead}
use Rattle.agent_state.specs.declared.modes.EvictMode.{EvictMode}
use Rattle.agent_state.specs.declared.modes.EvictMode.TheVariants as evict
use Rattle.tier_route.specs.declared.routing.Routed.{Routed}
use Rattle.tier_route.specs.declared.routing.Routed.TheVariants.{Go, Full}
use Rattle.tier_route.specs.Routes.{route_of}

-- a request is served in the cache exactly where its name has a record
abbrev pub HitIsCached : Mode → EvictMode → ℕ → Type 0
HitIsCached mode e count =
    (write cached met : Bool) → (route_of mode e count write cached met ≡ Go Hit) ↔ (cached ≡ true)

-- in proxy mode nothing is promoted and nothing is refused, so a drain can end
abbrev pub ProxyKeepsOut : EvictMode → ℕ → Type 0
ProxyKeepsOut e count =
    (write cached met : Bool) →
    (route_of Proxy e count write cached met ≢ Go Promote)
    × (route_of Proxy e count write cached met ≢ Full)

-- a cache in which all may be evicted takes no new name
abbrev pub FullTakesNothing : Mode → ℕ → Type 0
FullTakesNothing mode count =
    (write cached met : Bool) → route_of mode evict.Full count write cached met ≢ Go Promote

-- a read is never refused
abbrev pub ReadsGoOn : Mode → EvictMode → ℕ → Type 0
ReadsGoOn mode e count = (cached met : Bool) → route_of mode e count false cached met ≢ Full
