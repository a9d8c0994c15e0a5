-- `==` on the structs in the attributes of a link compares every field.
use Rattle.std.specs.Prelude.{ℕ, ◌==◌, ◌&&◌, refl}
use Rattle.link_base.specs.Equality.{IsThorough, wrapped, pairs, numbers}
use Rattle.link_common.specs.declared.link_map.LinkMap.{LinkMap}
use Rattle.link_common.specs.declared.cache_info.CacheInfo.{CacheInfo}

pub maps : IsThorough
    (λ (a b : LinkMap). a.mem_start == b.mem_start && (a.mem_end == b.mem_end && (a.base_addr == b.base_addr && (a.irq == b.irq
    && (a.dma == b.dma && (a.port == b.port && a.padding == b.padding))))))
    (λ (a : LinkMap). a)
maps = wrapped
    (λ (m : LinkMap). (m.mem_start, (m.mem_end, (m.base_addr, (m.irq, (m.dma, (m.port, m.padding)))))))
    (λ (x : ℕ × (ℕ × (ℕ × (ℕ × (ℕ × (ℕ × ℕ)))))). record {
      mem_start = x.0;
      mem_end = x.1.0;
      base_addr = x.1.1.0;
      irq = x.1.1.1.0;
      dma = x.1.1.1.1.0;
      port = x.1.1.1.1.1.0;
      padding = x.1.1.1.1.1.1;
    })
    (λ _. refl) (pairs numbers (pairs numbers (pairs numbers (pairs numbers (pairs numbers (pairs numbers numbers))))))

pub cache_infos : IsThorough
    (λ (a b : CacheInfo). a.max_reasm_len == b.max_reasm_len && (a.tstamp == b.tstamp && (a.reachable_time == b.reachable_time
    && a.retrans_time == b.retrans_time)))
    (λ (a : CacheInfo). a)
cache_infos = wrapped
    (λ (c : CacheInfo). (c.max_reasm_len, (c.tstamp, (c.reachable_time, c.retrans_time))))
    (λ (x : ℕ × (ℕ × (ℕ × ℕ))). record { max_reasm_len = x.0; tstamp = x.1.0; reachable_time = x.1.1.0; retrans_time = x.1.1.1 })
    (λ _. refl) (pairs numbers (pairs numbers (pairs numbers numbers)))
