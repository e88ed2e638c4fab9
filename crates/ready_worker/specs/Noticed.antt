-- What an event of the system tells of a stream.
use Rattle.std.specs.Prelude.{◌||◌}
use Rattle.mio.specs.Event.{event_token, is_error, is_read_closed}
use Rattle.mio.specs.declared.event.event.Event.{Event}
use Rattle.ready_worker.specs.declared.notice.Notice.{Notice}

-- the key of its token, and whether its peer closed it or it failed
abbrev pub notice_of : Event → Notice
notice_of event = record { key = (event_token event).0; ends = is_read_closed event || is_error event }
