-- The lemmas on a history that other crates cite. Declares nothing, and no other module of proofs/ can be named from outside.
pub use Rattle.history_laws.proofs.Answering.{answered-in-order, answered-once, asks-keep, asks-once, asks-stand, IsAnswer-old, more-answers, next-ask, push-cases}
pub use Rattle.history_laws.proofs.Basis.{asking-alike, blocks-alike, brought-by, made-of, number-of, requests-same}
pub use Rattle.history_laws.proofs.Own.{rests-on-its-own}
pub use Rattle.history_laws.proofs.Wholes.{end-below, ends-all, EndsAll}
pub use Rattle.history_laws.proofs.Going.{EndsRenewed, ends-renewed, EndsWhole, ends-whole, going-not, goes-so, GoesSo, IsConfirmedBy, IsGoing, MadeTurn, RenewedTurn, unless-cases, unless-none, unless-whole}
pub use Rattle.history_laws.proofs.Kept.{at-kept, Keeps, keeps-at, kept-before, kept-early, renews-for, RenewsFor}
pub use Rattle.history_laws.proofs.Renewing.{asks-back, brought-of, BroughtOf, brought-unoutrun, confirmed-as-asked, heard-told, kept-listed, renewal-shared, renewed-here, RenewedHere, renewed-of, stored-since, stored-told, stored-unoutrun, told-same}
pub use Rattle.history_laws.proofs.Fetching.{AreAsked, AreGiven, asks-first, CameTo, came-to, GivenSoFar, IsMadeOf, pieces_in, progress-push, SoFar, split-push, step-unrenewed, upload_in}
pub use Rattle.history_laws.proofs.Storing.{carried-current, copied-current, carried-rests, ended-uncopied, kept-served, rests-on-the-store, Served, served-by, stored-current, stored-rests, stored-shared}
pub use Rattle.history_laws.proofs.Carried.{served_carried-holds}
pub use Rattle.history_laws.proofs.Carrying.{as-heard, at-carried, Backs, backs, begun-uncarried, carried-at, carried-before, carried-below, carried-fit, carried-keeps, carried-own, carried-replies-own, carried-reply, CarriedAsk, carries-back, carries-keeps, copy-at, has-carried, has-renewing, heard-of, no-carried, no-renewal, no-renewed, none-carried, none-kept, reply-before, uncarried, unrenewed-stored}
pub use Rattle.history_laws.proofs.Copied.{answered_anew-holds, get-again-spelled}
pub use Rattle.history_laws.proofs.Copying.{at-still, before-twice, ticked-newest}
pub use Rattle.history_laws.proofs.Elements.{all-filter, all-more, all-of, all-passes, all-push, any-find, any-of, contains-filter, contains-later, contains-map, contains-mapped, contains-none, filter-by, filter-push, filtered-from, find-any, find-some, first-or-later, got-last, got-more, is-some}
pub use Rattle.history_laws.proofs.Endings.{rejected-holds, timed_out-holds}
pub use Rattle.history_laws.proofs.Facts.{at-before, eqb-apart, eqb-itself, eqb-same, follows-at, IsFirst-below, legal-before, length-before}
pub use Rattle.history_laws.proofs.Messages.{ack-spelled, all_answered-holds, content-spelled, get-spelled, given_up-holds, put-spelled}
pub use Rattle.history_laws.proofs.Members.{all-join, first-waits, waiting-all}
pub use Rattle.history_laws.proofs.Openings.{begun-listed, ends-first, listed-begun, open-exactly}
pub use Rattle.history_laws.proofs.Outstanding.{copies-way, outstanding-last, sound, Sound, way-cases}
pub use Rattle.history_laws.proofs.Places.{at-below, at-cases, at-entries, at-keeps, at-new, at-newest, at-old, at-same, before-keeps, before-new, entries-length}
pub use Rattle.history_laws.proofs.Uploads.{answer-spelled, endless-holds, turned_down-holds, uploaded-holds}
pub use Rattle.history_laws.proofs.Pieces.{fetched-holds, gap_heard-holds, get-other-spelled, piece-spelled, rest-spelled}
pub use Rattle.history_laws.proofs.Readers.{both_answered-holds}
pub use Rattle.history_laws.proofs.Store.{read_from_store-holds}
pub use Rattle.history_laws.proofs.Refusals.{maps-refusal}
pub use Rattle.history_laws.proofs.Renewed.{renewed-holds, renewed_again-holds, served_renewed-holds, tagged-spelled, valid-again-spelled, validates-spelled}
pub use Rattle.history_laws.proofs.RenewedInPieces.{next-spelled, valid-8-spelled}
pub use Rattle.history_laws.proofs.Firsts.{all-listed, first-found, first-is, first-listed, first-older, firsts-ids, firsts-tokens, IsBygone, IsListed, listed-below, way-first}
pub use Rattle.history_laws.proofs.Replies.{found, Found, replies-fit}
pub use Rattle.history_laws.proofs.Resting.{and-left, and-right, none-is, none-of, none-some, some-is}
pub use Rattle.history_laws.proofs.Sendings.{any-first, IsFirst-old, may-be}
pub use Rattle.history_laws.proofs.Sent.{asked-by, AskedFor, asking-plain, begun-before, begun-below, begun-keeps, begun-opening, next-is, opened-for, opening-begun, opens-begun, opens-so, OpensSo, past, Past, sent-for, sent-once, StartedFor}
pub use Rattle.history_laws.proofs.Asked.{unserved-of}
pub use Rattle.history_laws.proofs.Settled.{ask-listed, few-waiting, next-above, open-below, range-passes, waited-or-answered}
pub use Rattle.history_laws.proofs.Turns.{heard-sends, NotRst, turn-replied, turn-sent, waits-first}
pub use Rattle.history_laws.proofs.Queue.{awaited-none, awaited-not, awaited-registers, awaiting-stays, either-by, filter-all, filter-none, going-before, none-submitted, NoReply, OpensOrReplies, said-either, IsReplyAt, listed-are, queue-kept, queue-rises, queue-same, replies-stay, submits-by, submitted-below, submitted-cases, submitted-once, waiting-begun, waiting-goes, waiting-has, waiting-stays, waiting-unsent}
pub use Rattle.history_laws.proofs.Issued.{issued-few, issued-same, opened-issued, opened-queued, opened-rank, issued-more, rank-apart, rank-below, rank-keeps, submitted-apart, unawaited-quiet}
pub use Rattle.history_laws.proofs.Rising.{IsOneAtMost, one-at-most, openings-below, openings-rising, RisesBy, Rising, rising-filter, rising-push}
pub use Rattle.history_laws.proofs.Unbegun.{not-yet, replies-none, unbegun, unended}
pub use Rattle.history_laws.proofs.Late.{other-spelled, rst-0-spelled}
pub use Rattle.history_laws.proofs.Ended.{none-after-end}
pub use Rattle.history_laws.proofs.Outrunning.{end-before, end-keeps, end-old, end-since, ended-begun, EndsWrite, is-outrun, none-outran, not-true, outran, Outran, outrun-keeps, outrun-new, outrun-quiet, outrun-since, write-outruns}
pub use Rattle.history_laws.proofs.Joining.{Alike, begun-early, is-joinable, joinable-is, Joined, joins-found, joins-is, joins-none, joins-same, none-joined, one-joinable, open-same, outrun-same, reader, Reader, reader-alike, ReadsAlong, reads-opened, Shared, shared-is, unoutrun-earlier, write-earlier}
pub use Rattle.history_laws.proofs.Beginnings.{ask-begins, ask-own, asked-nothing, begins-at, begins-early, begins-keeps, begins-none, behind-at, first_of, heard-keeps, heard-none, heard-push, heard-stays, notice-begins, notice-behind}
pub use Rattle.history_laws.proofs.Quiet.{heard-quiet, quiet-since, sends-next}
pub use Rattle.history_laws.proofs.Started.{counted, IsCounted, started, Started, starts-so, StartsSo, starts-unread}
pub use Rattle.history_laws.proofs.Standing.{watch-current}
pub use Rattle.history_laws.proofs.Begun.{ask-behind, AskBehind, began-by, began-fits, begun-by, behind-below, behind-since, behind-unoutrun, came-own, Came, comes-fit, other-turn, starts-peer, unoutrun-behind}
pub use Rattle.history_laws.proofs.Order.{came-next, CameNext, FetchedOn, ordered, Ordered, write-begins}
pub use Rattle.history_laws.proofs.Registering.{IsRegistering, IsSaid, registering, said, this-is}
pub use Rattle.history_laws.proofs.Watching.{not-rst, watch-fits, watch-unwaited, WatchFits, watches-few, watches-fit}
pub use Rattle.history_laws.proofs.Counted.{HeldFrom, uncounted, watches-held}
pub use Rattle.history_laws.proofs.Notified.{comes-since, first-response, first-whole, IsNews, IsTold, IsUnderWatch, never-both, news-fits, news-since, news-told, news-unreplied, NewsFits, one-update, tell-fits, TellFits, under-watch, update-fits, update-news, updates-since}
pub use Rattle.history_laws.proofs.Watched.{forgotten-holds, greatest-1-spelled, greatest-3-spelled, least-2-spelled, registers-spelled, rejected-t-holds, served-holds, watch-get-spelled}
pub use Rattle.history_laws.proofs.Outdated.{counts-since, CountsFor, outdated-by, outdated-keeps, outdated-since, update-counts}
