-- What all lanes share while they are served, as the service has it.
use Rattle.lane_workers.specs.declared.live_calls.LiveService.{LiveService}
use Rattle.lane_workers.specs.LiveLanes.{LiveView, lives}

abbrev pub live_view : {R G : Type 0} → LiveService R G → LiveView
live_view s = lives s.service.plan.now s.service.contexts.now s.table.now s.service.counter
