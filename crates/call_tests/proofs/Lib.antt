mod JumpItems
