-- The table of the modes, a row a case.
use Rattle.std.specs.Prelude.{ℕ, zero, suc, Bool, true, false}
use Rattle.obj_model.specs.declared.tier.Mode.{Mode}
use Rattle.obj_model.specs.declared.tier.Mode.TheVariants.{Writeback, Readproxy, Proxy}
use Rattle.obj_model.specs.declared.tier.Path.TheVariants.{Hit, Promote, ProxyRead, ProxyWrite}
use Rattle.agent_state.specs.declared.modes.EvictMode.{EvictMode}
use Rattle.agent_state.specs.declared.modes.EvictMode.TheVariants as evict
use Rattle.tier_route.specs.declared.routing.Routed.{Routed}
use Rattle.tier_route.specs.declared.routing.Routed.TheVariants.{Go, Full}

-- a read in writeback mode while all may be evicted is proxied, a write is refused
abbrev pub when_full : Bool → Routed
when_full false = Go ProxyRead
when_full true = Full

-- a name that was used lately is promoted, any other is left in the base
abbrev pub by_recency : Bool → Bool → Routed
by_recency write true = Go Promote
by_recency false false = Go ProxyRead
by_recency true false = Go ProxyWrite

-- without hit sets every name is promoted
abbrev pub by_hit_sets : ℕ → Bool → Bool → Routed
by_hit_sets zero write met = Go Promote
by_hit_sets (suc n) write met = by_recency write met

-- writeback: by how full the cache is, then by the hit sets
abbrev pub writeback_route : EvictMode → ℕ → Bool → Bool → Routed
writeback_route evict.Full count write met = when_full write
writeback_route evict.Some count write met = by_hit_sets count write met
writeback_route evict.Idle count write met = by_hit_sets count write met

-- readproxy: reads stay in the base, writes are promoted where there is room
abbrev pub readproxy_route : EvictMode → Bool → Routed
readproxy_route mode false = Go ProxyRead
readproxy_route evict.Full true = Full
readproxy_route evict.Some true = Go Promote
readproxy_route evict.Idle true = Go Promote

-- proxy: all stays in the base
abbrev pub proxy_route : Bool → Routed
proxy_route false = Go ProxyRead
proxy_route true = Go ProxyWrite

-- a name without a record, by the pool's mode
abbrev pub uncached_route : Mode → EvictMode → ℕ → Bool → Bool → Routed
uncached_route Writeback evict count write met = writeback_route evict count write met
uncached_route Readproxy evict count write met = readproxy_route evict write
uncached_route Proxy evict count write met = proxy_route write

-- the route of a request; a name with a record is served in the cache
abbrev pub route_of : Mode → EvictMode → ℕ → Bool → Bool → Bool → Routed
route_of mode evict count write true met = Go Hit
route_of mode evict count write false met = uncached_route mode evict count write met
