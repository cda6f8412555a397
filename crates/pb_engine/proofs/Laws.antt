-- What is proved of jobs that are out and of runs under fixed outcomes, passed on so that a crate above names this one alone.
pub use Rattle.pb_laws.proofs.JobsStay.{attempt_of_job, item_of_job, stays_out, job_host, sent_out, open_of_job}
pub use Rattle.pb_laws.proofs.Telling.{tasks_of}
pub use Rattle.pb_laws.proofs.OutJobs.{InRun, in_run, outs_silent, outs_sent, outs_reported, room_to_send, sending, silent_says, send_says, report_tells, first_outs}
pub use Rattle.pb_laws.proofs.Fixed.{ends_together, end_alike, state_forks, whole_forks}
