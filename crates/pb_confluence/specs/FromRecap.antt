-- Words of pb_recap, passed on so that a crate above needs not name it.
pub use Rattle.pb_recap.specs.Kinds.{CountKind, Failed, Okay, Rescued, Skipped, Unreachable, has, status_of}
pub use Rattle.pb_recap.specs.Recap.{by_host, count_from, counted, ended_by, finishes, hosts_from, recap, result_counts}
