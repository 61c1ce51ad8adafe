use Rattle.cache_pool.proofs.Found.{decoded_none}
use Rattle.cache_pool.proofs.reading.decoded.Goals as goal

pub returns-in-Ok-None : goal.returns-in-Ok-None
returns-in-Ok-None c = decoded_none c.args.bytes.now c.in-Ok-None.field-0 c.in-Ok-None.field-0-is c.in-Ok-None.ensures.none
