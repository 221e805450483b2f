use Rattle.be_core.proofs.state.State.happen.Goals as goal

pub returns-in-Look-clause-done : goal.returns-in-Look-clause-done
returns-in-Look-clause-done c = rw c.in-Look.is c.look.ensures.done

pub returns-in-Announce-clause-done : goal.returns-in-Announce-clause-done
returns-in-Announce-clause-done c = rw c.in-Announce.is c.announce.ensures.done

pub returns-in-LookAgain-clause-done : goal.returns-in-LookAgain-clause-done
returns-in-LookAgain-clause-done c = rw c.in-LookAgain.is c.look_again.ensures.done

pub returns-in-Unpin-clause-done : goal.returns-in-Unpin-clause-done
returns-in-Unpin-clause-done c = rw c.in-Unpin.is c.unpin.ensures.done

pub returns-in-Lock-clause-done : goal.returns-in-Lock-clause-done
returns-in-Lock-clause-done c = rw c.in-Lock.is c.lock.ensures.done

pub returns-in-Scan-clause-done : goal.returns-in-Scan-clause-done
returns-in-Scan-clause-done c = rw c.in-Scan.is c.scan.ensures.done

pub returns-in-Fill-clause-done : goal.returns-in-Fill-clause-done
returns-in-Fill-clause-done c = rw c.in-Fill.is c.fill.ensures.done

pub returns-in-Unlock-clause-done : goal.returns-in-Unlock-clause-done
returns-in-Unlock-clause-done c = rw c.in-Unlock.is c.unlock.ensures.done

pub returns-in-Publish-clause-done : goal.returns-in-Publish-clause-done
returns-in-Publish-clause-done c = rw (c.in-Publish.is, ← c.deref.ensures.value) c.publish.ensures.done
